-- How many numbers below n meet a test.
--     count, count_none, count_more, count_le, at_most_one
--     once      the count is 1 where one number meets the test and no other does
-- Assumes nothing.
use Prim.Native.Nat.{ℕ, zero, suc, ◌+◌, ◌≤◌, ◌<◌}
use mathlib.Core.Bool.{Bool, true, false, cond}
use mathlib.Core.Path.{◌≡◌, refl}
use native.Mathlib.Decide.{dec_lt}
use native.Mathlib.Numerals.{add-one}
use native.Mathlib.Omega.{arith}
use lib.Dec.{eqb}
use borrow.Author.Tests.{eqb-true, eq-eqb}
use Rattle.bitset.specs.Tests.{all, implies}
use Rattle.bitset.specs.Tests.Laws.{both, is_false, all_i, all_e, implies_i, implies_e}

unfoldable pub count : ℕ → (ℕ → Bool) → ℕ
count zero p = 0
count (suc n) p = count n p + cond (p n) 1 0

pub count_none : (p : ℕ → Bool) → count 0 p ≡ 0
unfolding count
count_none p = refl

pub count_more : (n : ℕ) (p : ℕ → Bool) → count (n + 1) p ≡ count n p + cond (p n) 1 0
unfolding count
count_more n p = rw add-one

pub at_most_one : (b : Bool) (n : ℕ) → n ≡ cond b 1 0 → n ≤ 1
at_most_one true n e = omega arith
at_most_one false n e = omega arith

pub count_le : (n : ℕ) (p : ℕ → Bool) → count n p ≤ n
unfolding count
count_le zero p = omega arith
count_le (suc n) p = omega (arith, count_le n p, at_most_one (p n) _ refl)

met : (n : ℕ) (p : ℕ → Bool) (i : ℕ) → i < n → p i ≡ true → 1 ≤ count n p
unfolding count
met zero p i l h = omega arith
met (suc n) p i l h = go (dec_lt i n) (λ k. met n p i k h)
  where
    go : Dec (i < n) → (i < n → 1 ≤ count n p) → 1 ≤ count n p + cond (p n) 1 0
    go (yes k) f = omega (arith, f k)
    go (no k) f = let e : i ≡ n = omega arith in rw (rw e at h) (omega arith)

unmet : (n : ℕ) (p : ℕ → Bool) → ((k : ℕ) → k < n → p k ≡ false) → count n p ≡ 0
unfolding count
unmet zero p f = refl
unmet (suc n) p f = rw (f n (omega arith), unmet n p (λ k l. f k (omega arith)))

-- two that meet the test count as two
two : (n : ℕ) (p : ℕ → Bool) (i j : ℕ) → i < j → j < n → p i ≡ true → p j ≡ true → 2 ≤ count n p
unfolding count
two zero p i j l m h k = omega arith
two (suc n) p i j l m h k = go (dec_lt j n) (λ b. two n p i j l b h k)
  where
    go : Dec (j < n) → (j < n → 2 ≤ count n p) → 2 ≤ count n p + cond (p n) 1 0
    go (yes b) f = omega (arith, f b)
    go (no b) f = let e : j ≡ n = omega arith in rw (rw e at k) (omega (arith, met n p i (omega arith) h))

-- one alone counts as one
alone : (n : ℕ) (p : ℕ → Bool) (i : ℕ) → i < n → p i ≡ true → ((k : ℕ) → k < n → p k ≡ true → k ≡ i) → count n p ≡ 1
unfolding count
alone zero p i l h f = absurd (omega arith)
alone (suc n) p i l h f = go (dec_lt i n) (λ k. alone n p i k h (λ j b. f j (omega arith)))
  where
    go : Dec (i < n) → (i < n → count n p ≡ 1) → count n p + cond (p n) 1 0 ≡ 1
    go (yes k) g = rw (is_false (p n) (λ e. absurd (omega (arith, f n (omega arith) e))), g k)
    go (no k) g =
        let e : i ≡ n = omega arith in
        rw (rw e at h, unmet n p (λ j b. is_false (p j) (λ m. absurd (omega (arith, f j (omega arith) m)))))

pub once : (n : ℕ) (p : ℕ → Bool) (i : ℕ) → i < n → p i ≡ true → eqb (count n p) 1 ≡ all n (λ k. implies (p k) (eqb k i))
once n p i l h = both _ _ (λ one. all_i n _ (λ k b. implies_i _ _ (λ m. eq-eqb k i (only one k b m (dec_lt k i) (dec_lt i k)))))
    (λ a. eq-eqb _ _ (alone n p i l h (λ k b m. eqb-true k i (implies_e _ _ (all_e n _ a k b) m))))
  where
    only : eqb (count n p) 1 ≡ true → (k : ℕ) → k < n → p k ≡ true → Dec (k < i) → Dec (i < k) → k ≡ i
    only one k b m (yes d) f = absurd (omega (arith, eqb-true (count n p) 1 one, two n p k i d l m h))
    only one k b m (no d) (yes f) = absurd (omega (arith, eqb-true (count n p) 1 one, two n p i k f b h m))
    only one k b m (no d) (no f) = omega arith
