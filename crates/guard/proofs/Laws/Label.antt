-- Laws of labels.
--     four_not_three                 the misreading: as a number 4 is more than 3, as a set it does not contain it
--     dominates_iff                  dominance, member by member: A's grade is at least B's, and each category of B is one of A
--     dominates_refl, -trans, -antisym   dominance is an order
--     same_label_lem                     the test of equality is equality
--     same_compares                      .. and compares the fields
--     grade_in, cats_in, in_range    a label in range, in any width
--     none_in_range                  label 0/0 is
-- Assumes nothing.
use Prim.Native.Nat.{ℕ, ◌≤◌}
use mathlib.Core.Path.{◌≡◌, refl, ap, ap₂}
use mathlib.Core.Bool.{true, false, ◌&&◌}
use mathlib.Core.Logic.{◌↔◌}
use native.Mathlib.Omega.{arith}
use native.Mathlib.Nat.{le_refl, le_trans, le_antisymm}
use lib.Dec.{eqb}
use borrow.Author.Tests.{leb-true, le-leb, eqb-true, eq-eqb}
use Rattle.bitset.specs.Tests.{every}
use Rattle.bitset.specs.Tests.Laws.{every_i, every_e}
use Rattle.bitset.specs.Sets.{has, contains}
use Rattle.bitset.specs.Sets.Laws.{contains_has, has_contains, contains_antisym}
use Rattle.guard.specs.Label.{top_grade, label_in_range_in, label, no_label, dominates, same_label}
use Rattle.guard.specs.declared.Label.{Label}

-- ---- Comparing category sets as numbers: 4 is more than 3 but does not contain it.
pub four_not_three : dominates (label 0 4) (label 0 3) ≡ false
unfolding dominates every contains
four_not_three = refl

-- Label A dominates label B when A's grade is at least B's and A's set contains B's.
abbrev pub Dominates : Label → Label → Type 0
Dominates a b = (b.grade ≤ a.grade) × ((i : ℕ) → has b.cats i ≡ true → has a.cats i ≡ true)

pub dominates_e : (a b : Label) → dominates a b ≡ true → Dominates a b
unfolding dominates
dominates_e a b d =
    let (g, (c, _)) = every_e _ d in
    (leb-true b.grade a.grade g, contains_has a.cats b.cats c)

pub dominates_i : (a b : Label) → Dominates a b → dominates a b ≡ true
unfolding dominates
dominates_i a b (g, c) = every_i _ (le-leb b.grade a.grade g, (has_contains a.cats b.cats c, tt))

pub dominates_iff : (a b : Label) → dominates a b ≡ true ↔ Dominates a b
dominates_iff a b = (dominates_e a b, dominates_i a b)

-- ---- an order
pub dominates_refl : (a : Label) → dominates a a ≡ true
dominates_refl a = dominates_i a a (le_refl a.grade, λ i h. h)

pub dominates_trans : (a b c : Label) → dominates a b ≡ true → dominates b c ≡ true → dominates a c ≡ true
dominates_trans a b c p q =
    let (g, m) = dominates_e a b p in
    let (h, n) = dominates_e b c q in
    dominates_i a c (le_trans h g, λ i k. m i (n i k))

same_fields : (a b : Label) → a.grade ≡ b.grade → a.cats ≡ b.cats → a ≡ b
same_fields a b g c = ap₂ label g c

pub dominates_antisym : (a b : Label) → dominates a b ≡ true → dominates b a ≡ true → a ≡ b
dominates_antisym a b p q =
    let (g, m) = dominates_e a b p in
    let (h, n) = dominates_e b a q in
    same_fields a b (le_antisymm h g)
    (contains_antisym a.cats b.cats (has_contains a.cats b.cats m) (has_contains b.cats a.cats n))

-- ---- the test of equality
pub same_label_lem : (a b : Label) → same_label a b ≡ true ↔ a ≡ b
unfolding same_label
same_label_lem a b = (
  λ h. let (g, (c, _)) = every_e _ h in same_fields a b (eqb-true _ _ g) (eqb-true _ _ c),
  λ e. every_i _ (eq-eqb _ _ (ap (λ (l : Label). l.grade) e), (eq-eqb _ _ (ap (λ (l : Label). l.cats) e), tt)),
)

-- field by field, in the order of the record
pub same_compares : (a b : Label) → same_label a b ≡ (eqb a.cats b.cats && eqb a.grade b.grade)
unfolding same_label every
same_compares a b = grind arith

-- ---- the range
module _ (width : ℕ) where
  pub grade_in : (a : Label) → label_in_range_in width a ≡ true → a.grade ≤ top_grade
  unfolding label_in_range_in
  grade_in a h = leb-true _ _ (every_e _ h).0

  pub cats_in : (a : Label) → label_in_range_in width a ≡ true → a.cats ≤ width
  unfolding label_in_range_in
  cats_in a h = leb-true _ _ (every_e _ h).1.0

  pub in_range : (a : Label) → a.grade ≤ top_grade → a.cats ≤ width → label_in_range_in width a ≡ true
  unfolding label_in_range_in
  in_range a g c = every_i _ (le-leb _ _ g, (le-leb _ _ c, tt))

  pub none_in_range : label_in_range_in width no_label ≡ true
  none_in_range = in_range no_label (omega arith) (omega arith)
