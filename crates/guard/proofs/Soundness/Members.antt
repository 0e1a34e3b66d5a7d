-- The members of a set, each taken out of what is left, lowest first.
--     has_half                                           half of a set has its members but 0, counted from 1
--     lowest, none_lower                                 trailing zeros tell the lowest member
--     without_less                                       one member less is a smaller number
--     within_mask                                        a mask test is the test of each member
-- Assumes nothing.
use Prim.Native.Nat.{ℕ, zero, suc, ◌/◌, ◌%◌, ◌^◌, ◌<◌}
use mathlib.Core.Bool.{Bool, true, false}
use mathlib.Core.Path.{◌≡◌, refl, sym, ap, ◌∙◌}
use native.Mathlib.Decide.{ℕ_discrete}
use native.Mathlib.Nat.{div-one, pow-suc}
use native.Mathlib.Numerals.{one-add}
use native.Mathlib.Omega.{arith}
use lib.Count.{count_trailing_zeros, under}
use borrow.Author.Tests.{eq-eqb, ne_eqb}
use Rattle.bitset.specs.Tests.{all, implies}
use Rattle.bitset.specs.Tests.Laws.{clash, all_cong}
use Rattle.bitset.specs.Sets.{has, contains, without, from}
use Rattle.bitset.specs.Sets.Laws.{has_without_same, without_le, contains_all}
use Rattle.bitset.specs.Sets.Shift.{has_from}

pub has_half : (q i : ℕ) → has (q / 2) i ≡ has q (suc i)
unfolding from
has_half q i = rw one-add at (has_from 1 q i)

odd : (q r : ℕ) → q % 2 ≡ suc r → has q 0 ≡ true
unfolding has
odd q r h = rw div-one (eq-eqb (q % 2) 1 (omega arith))

pub lowest : (d q : ℕ) → 0 < q → q < 2 ^ d → (count_trailing_zeros d q < d) × (has q (count_trailing_zeros d q) ≡ true)
unfolding count_trailing_zeros
lowest zero q h l = absurd (omega arith)
lowest (suc d) q h l = go (q % 2) refl (λ even. lowest d (q / 2) (omega arith) (omega (arith, pow-suc 2 d)))
  where
    go : (r : ℕ) → q % 2 ≡ r → (q % 2 ≡ 0 → (count_trailing_zeros d (q / 2) < d) × (has (q / 2) (count_trailing_zeros d (q / 2)) ≡ true))
        → (under (q % 2) (count_trailing_zeros d (q / 2)) < suc d) × (has q (under (q % 2) (count_trailing_zeros d (q / 2))) ≡ true)
    go zero e f = let (a, b) = f e in rw e (omega arith, sym (has_half q _) ∙ b)
    go (suc r) e f = rw e (omega arith, odd q r e)

even : (q : ℕ) → q % 2 ≡ 0 → has q 0 ≡ false
unfolding has
even q h = rw div-one (ne_eqb (q % 2) 1 (λ one. omega arith))

pub none_lower : (d q i : ℕ) → i < count_trailing_zeros d q → has q i ≡ false
unfolding count_trailing_zeros
none_lower zero q i l = absurd (omega arith)
none_lower (suc d) q i l = go (q % 2) refl i (none_lower d (q / 2)) l
  where
    go : (r : ℕ) → q % 2 ≡ r → (i : ℕ) → ((j : ℕ) → j < count_trailing_zeros d (q / 2) → has (q / 2) j ≡ false) → i < under r (count_trailing_zeros d (q / 2)) → has q i ≡ false
    go zero e zero f l = even q e
    go zero e (suc j) f l = sym (has_half q j) ∙ f j (omega arith)
    go (suc r) e i f l = absurd (omega arith)

pub without_less : (s i : ℕ) → has s i ≡ true → without s i < s
without_less s i h = go (ℕ_discrete (without s i) s)
  where
    go : Dec (without s i ≡ s) → without s i < s
    go (yes e) = absurd (clash (has s i) h (rw e at (has_without_same s i)))
    go (no e) = omega (arith, without_le s i)

pub within_mask : (w s m : ℕ) (P : ℕ → Bool) → s < 2 ^ w → ((e : ℕ) → e < w → has m e ≡ P e) → contains m s ≡ all w (λ e. implies (has s e) (P e))
within_mask w s m P l f = contains_all w m s l ∙ all_cong w _ _ (λ e k. ap (implies (has s e)) (f e k))
