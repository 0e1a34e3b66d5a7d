-- `Tables::fresh` is the build of the definitions. Assumes nothing.
use mathlib.Core.Path.{◌≡◌, sym, ◌∙◌}
use mathlib.Core.Bool.{Bool, ◌&&◌}
use mathlib.Core.List.{List, [], ◌∷◌}
use Prim.Native.Nat.{ℕ}
use Rattle.guard.specs.Level.{user_count}
use Rattle.guard.specs.Label.{all_categories}
use Rattle.guard.specs.Tables.{no_user}
use Rattle.guard.specs.declared.User.{User}
use lib.ListN.{length, get_or}
use borrow.Author.Tests.{eq-eqb}
use Rattle.bitset.specs.Tests.{every, all}
use Rattle.guard.specs.Sound.{users_in_range, users_in_range_in, user_in_range_in, edition_in_range}
use Rattle.guard.specs.Fresh.{build}
use Rattle.guard.proofs.Soundness.Loops.{long}
use Rattle.guard.proofs.Soundness.Tests.{and_two}
use borrow.Author.Rules.{rules}
use Rattle.guard.proofs.Filling.{every_two}
use Rattle.guard.proofs.Tables.fresh.Goals as goal

tested : (us : List User) (edition : ℕ) (a b : Bool) → length us ≡ 16
    → a ≡ all user_count (λ u. user_in_range_in all_categories (get_or us u no_user)) → b ≡ edition_in_range edition
    → (a && b) ≡ every (users_in_range us ∷ edition_in_range edition ∷ [])
unfolding users_in_range_in
tested us edition a b long x y = and_two _ _ _ _ (x ∙ sym (every_two _ _ (eq-eqb _ _ long))) y

pub returns-then-users_in_range-edition_in_range : goal.returns-then-users_in_range-edition_in_range
unfolding build
returns-then-users_in_range-edition_in_range c =
    let t = tested c.args.users c.args.edition _ _ (search (long, c.well_formed.0)) c.users_in_range.ensures c.edition_in_range.ensures in
    rw (c.fresh_over-tables.ensures, sym t ∙ c.if-users_in_range-edition_in_range.true)

pub returns : goal.returns
unfolding build
returns c =
    let t = tested c.args.users c.args.edition _ _ (search rules) c.users_in_range.ensures c.edition_in_range.ensures in
    let nobody : c.default.result ≡ no_user = search (rules, c.default.ensures) in
    rw (c.fresh_over.ensures, nobody, sym t ∙ c.if-users_in_range-edition_in_range.false)
