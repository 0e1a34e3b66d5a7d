-- One request: when it is done, and what holds after it.
--     DoneIn, Done    what answer 0 tells of the tables and the request, in any width and in force
--     done            answer 0, as DoneIn
--     next_by_lem         a property of the tables that holds now, and after the effect where the request is done, holds next
--     each_rule       what holds of each of the nineteen rules and of the unknown one holds of every request's rule
--     each_numbered   .. and may speak of the rule's number
-- Assumes nothing.
use Prim.Native.Nat.{ℕ, zero, suc}
use mathlib.Core.Path.{◌≡◌, refl}
use mathlib.Core.Bool.{Bool, true, false, not, cond}
use mathlib.Core.List.{List, [], ◌∷◌, map}
use lib.Dec.{eqb}
use lib.ListN.{get_or}
use borrow.Author.Tests.{eqb-true, eqb-false}
use Rattle.bitset.specs.Tests.{every}
use Rattle.guard.specs.Label.{all_categories}
use Rattle.guard.specs.Sound.{sound_in}
use Rattle.guard.specs.Refusals.{first}
use Rattle.guard.specs.Requests.{Rule, field_in_range_in, unknown, rules, rule_of}
use Rattle.guard.specs.Step.{in_ranges_in, answer_in, next_in}
use Rattle.guard.specs.declared.Tables.{Tables}
use Rattle.guard.specs.declared.Request.{Request}

pub record DoneIn (width : ℕ) (rule : Rule) (t : Tables) (q : Request) : Type 0 where
  pub is_sound : sound_in width t ≡ true
  pub ranges : every (map (field_in_range_in width q) rule.uses) ≡ true
  pub none : first (rule.refusals t q) ≡ 0

abbrev pub Done : Rule → Tables → Request → Type 0
Done = DoneIn all_categories

pub done : {width : ℕ} (t : Tables) (q : Request) → answer_in width t q ≡ 0 → DoneIn width (rule_of q) t q
unfolding answer_in first in_ranges_in
done {width} t q d = go (sound_in width t) refl (in_ranges_in width q) refl d
  where
    go : (s : Bool) → sound_in width t ≡ s → (r : Bool) → in_ranges_in width q ≡ r
        → cond (not s) 1 (cond (not r) 2 (first ((rule_of q).refusals t q))) ≡ 0 → DoneIn width (rule_of q) t q
    go true s true r d = record { is_sound = s; ranges = r; none = d }
    go true s false r d = absurd (eqb-false 2 0 refl d)
    go false s r e d = absurd (eqb-false 1 0 refl d)

pub next_by_lem : {width : ℕ} (P : Tables → Type 0) (t : Tables) (q : Request) → P t → (DoneIn width (rule_of q) t q → P ((rule_of q).effect q t)) → P (next_in width t q)
unfolding next_in
next_by_lem {width} P t q now after = go (eqb (answer_in width t q) 0) refl
  where
    go : (b : Bool) → eqb (answer_in width t q) 0 ≡ b → P (cond b ((rule_of q).effect q t) t)
    go true e = after (done t q (eqb-true _ _ e))
    go false e = now

-- ---- one entry for each rule, which may speak of the rule's number
abbrev pub EachAt : (ℕ → Rule → Type 0) → List Rule → Type 0
EachAt P [] = Unit {0}
EachAt P (r ∷ rs) = P 0 r × EachAt (λ n. P (suc n)) rs

abbrev pub Each : (Rule → Type 0) → List Rule → Type 0
Each P = EachAt (λ n. P)

each_at : (P : ℕ → Rule → Type 0) (rs : List Rule) (d : Rule) → EachAt P rs → ((n : ℕ) → P n d) → (n : ℕ) → P n (get_or rs n d)
each_at P [] d ps p n = p n
each_at P (r ∷ rs) d (here, rest) p zero = here
each_at P (r ∷ rs) d (here, rest) p (suc n) = each_at (λ n. P (suc n)) rs d rest (λ n. p (suc n)) n

pub each_numbered : (P : ℕ → Rule → Type 0) → EachAt P rules → ((n : ℕ) → P n unknown) → (q : Request) → P q.call (rule_of q)
unfolding rule_of
each_numbered P ps p q = each_at P rules unknown ps p q.call

pub each_rule : (P : Rule → Type 0) → Each P rules → P unknown → (q : Request) → P (rule_of q)
each_rule P ps p = each_numbered (λ n. P) ps (λ n. p)
