-- `guard::sound::opens::equals_each` tests each member. Assumes nothing.
use Prim.Native.Nat.{◌<◌}
use native.Mathlib.Omega.{arith}
use mathlib.Core.Path.{refl, ◌∙◌}
use borrow.Author.Rules.{rules}
use lib.ListN.{get_or}
use lib.Dec.{eqb}
use Rattle.guard.specs.Private.Tested.{listed}
use Rattle.std.proofs.Common.{tests}
use Rattle.std.proofs.lemmas.Iterator.Consumers.{YieldsList-from_first}
use Rattle.std.proofs.lemmas.Iterator.Adapters.{serves_from_places}
use Rattle.std.proofs.lemmas.Iterator.Search.{all_from_yields_List}
use Rattle.guard.specs.declared.members.Members.{Members}
use Rattle.guard.proofs.Soundness.Listed.{listed_small, all_listed}
use Rattle.guard.proofs.sound.opens.equals_each.Goals as goal

pub all-requires-clause-callable : goal.all-requires-clause-callable
all-requires-clause-callable c =
    serves_from_places (YieldsList-from_first (λ x. x) (λ (s : Members). listed s.0) (listed c.args.set) refl)
    (λ x q k. search rules)
    (λ x k l is.
    let small : x < 64 = omega (arith, listed_small c.args.set k x l) in
    search rules)

pub returns : goal.returns
returns c =
    all_from_yields_List (λ e. eqb (get_or c.args.labels.now e 0) c.args.label) _ _ _ c.all.ensures.ran (YieldsList-from_first (λ x. x) (λ (s : Members). listed s.0) (listed c.args.set) refl) (λ x b q k. search (rules, tests))
    ∙ all_listed _ c.args.set
