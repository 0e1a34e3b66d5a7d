-- The pigeonhole, by which a chain of parents in one level ends within the level's numbers or never.
--     Meet            two places up to n with one number
--     pigeons         of n + 1 numbers below n, two are equal
-- Assumes nothing.
use Prim.Native.Nat.{ℕ, zero, suc, ◌≤◌, ◌<◌}
use mathlib.Core.Path.{◌≡◌, refl}
use mathlib.Core.Bool.{Bool, true, false, cond}
use mathlib.Core.Logic.{⊎_elim}
use lib.Dec.{eqb}
use native.Mathlib.Omega.{arith}
use borrow.Author.Tests.{eqb-true, eqb-false}
use Rattle.bitset.specs.Tests.{some}
use Rattle.bitset.specs.Tests.Laws.{decide, some_e, some_no_e}

abbrev pub Meet : (ℕ → ℕ) → ℕ → Type 0
Meet g n = (i : ℕ) × (j : ℕ) × (i < j) × (j ≤ n) × (g i ≡ g j)

-- the numbers below suc n other than v, as numbers below n: v stands in for n
squeeze : ℕ → ℕ → ℕ → ℕ
squeeze n v a = cond (eqb a n) v a

squeeze_below : (n v a : ℕ) → v < suc n → a < suc n → (a ≡ v → ⊥) → squeeze n v a < n
unfolding squeeze
squeeze_below n v a hv ha other = go (eqb a n) refl
  where
    go : (b : Bool) → eqb a n ≡ b → cond b v a < n
    go true e = omega (arith, eqb-true a n e)
    go false e = omega (arith, eqb-false a n e)

squeeze_apart : (n v a b : ℕ) → (a ≡ v → ⊥) → (b ≡ v → ⊥) → squeeze n v a ≡ squeeze n v b → a ≡ b
unfolding squeeze
squeeze_apart n v a b oa ob h = go (eqb a n) refl (eqb b n) refl h
  where
    go : (p : Bool) → eqb a n ≡ p → (q : Bool) → eqb b n ≡ q → cond p v a ≡ cond q v b → a ≡ b
    go true e true f h = omega (arith, eqb-true a n e, eqb-true b n f)
    go true e false f h = omega arith
    go false e true f h = omega arith
    go false e false f h = h

pub pigeons : (n : ℕ) (g : ℕ → ℕ) → ((k : ℕ) → k ≤ n → g k < n) → Meet g n
pigeons zero g f = absurd (none (f 0 (omega arith)))
  where
    none : g 0 < 0 → ⊥
    none h = omega arith
pigeons (suc n) g f = ⊎_elim hit (λ h. miss h (pigeons n (λ k. squeeze n (g (suc n)) (g k)) (below h))) (decide (some (suc n) test))
  where
    test : ℕ → Bool
    test k = eqb (g k) (g (suc n))

    hit : some (suc n) test ≡ true → Meet g (suc n)
    hit h = let (k, l, e) = some_e (suc n) test h in (k, suc n, l, omega arith, eqb-true (g k) (g (suc n)) e)

    other : some (suc n) test ≡ false → (k : ℕ) → k < suc n → g k ≡ g (suc n) → ⊥
    other h k l = eqb-false (g k) (g (suc n)) (some_no_e (suc n) test h k l)

    below : some (suc n) test ≡ false → (k : ℕ) → k ≤ n → squeeze n (g (suc n)) (g k) < n
    below h k l = squeeze_below n (g (suc n)) (g k) (f (suc n) (omega arith)) (f k (omega arith)) (other h k (omega arith))

    miss : some (suc n) test ≡ false → Meet (λ k. squeeze n (g (suc n)) (g k)) n → Meet g (suc n)
    miss h (i, j, l, m, e) =
        (i, j, l, omega arith, squeeze_apart n (g (suc n)) (g i) (g j) (other h i (omega arith)) (other h j (omega arith)) e)
