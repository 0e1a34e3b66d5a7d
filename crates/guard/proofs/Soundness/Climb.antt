-- A chain of parents, walked step by step.
--     climbs_root, climbs_on, climbs_end      one step of `climbs`
--     climbs_cong                             parents and tests that agree on the entities climb alike
-- Assumes nothing.
use Prim.Native.Nat.{ℕ, zero, suc, ◌-◌, ◌<◌}
use mathlib.Core.Bool.{Bool, true, false, ◌&&◌, and-true}
use mathlib.Core.Path.{◌≡◌, refl}
use native.Mathlib.Omega.{arith}
use Rattle.bitset.specs.Tests.{either, every}
use Rattle.bitset.specs.Tests.Laws.{either_l}
use Rattle.guard.specs.Level.{is_root}
use Rattle.guard.specs.Chain.{climbs}

module _ (f : ℕ → ℕ) (p : ℕ → Bool) where
  pub climbs_root : (n e : ℕ) → is_root e ≡ true → climbs f p n e ≡ true
  unfolding climbs
  climbs_root zero e h = h
  climbs_root (suc n) e h = either_l _ _ h

  pub climbs_on : (n e : ℕ) → 0 < n → is_root e ≡ false → climbs f p n e ≡ (p (f e) && climbs f p (n - 1) (f e))
  unfolding climbs either every
  climbs_on zero e l h = absurd (omega arith)
  climbs_on (suc n) e l h = let less : suc n - 1 ≡ n = omega arith in rw (less, h) (simp and-true)

  pub climbs_end : (e : ℕ) → climbs f p 0 e ≡ is_root e
  unfolding climbs
  climbs_end e = refl

pub climbs_cong : (f g : ℕ → ℕ) (p p' : ℕ → Bool) → ((k : ℕ) → k < 64 → (f k ≡ g k) × (g k < 64)) → ((k : ℕ) → k < 64 → p k ≡ p' k)
    → (n e : ℕ) → e < 64 → climbs f p n e ≡ climbs g p' n e
unfolding climbs
climbs_cong f g p p' h same zero e l = refl
climbs_cong f g p p' h same (suc n) e l = let (q, b) = h e l in rw (q, same (g e) b, climbs_cong f g p p' h same n (g e) b)
