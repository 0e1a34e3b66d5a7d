-- Senior and junior roles: what is below a role, to any depth.
use Rattle.std.specs.Prelude.{ℕ, zero, suc, Bool, false, [], ◌∷◌}
use Rattle.bitset.specs.Tests.{every, either, some}
use Rattle.guard.specs.Level.{role_count}

-- b is below a within n ties: a junior of a, or below one of its juniors
unfoldable pub below_within : (ℕ → ℕ → Bool) → ℕ → ℕ → ℕ → Bool
below_within junior zero a b = false
below_within junior (suc n) a b = either (junior a b) (some role_count (λ m. every (junior a m ∷ below_within junior n m b ∷ [])))

-- its juniors, and theirs, to any depth. There are sixteen roles, so what is below is so within sixteen ties. (proofs/Laws/Below:
-- this is the same as with no bound.)
unfoldable pub below : (ℕ → ℕ → Bool) → ℕ → ℕ → Bool
below junior = below_within junior role_count

-- the test is met by a itself, or by one below it
abbrev pub or_below : (ℕ → ℕ → Bool) → (ℕ → Bool) → ℕ → Bool
or_below junior p a = either (p a) (some role_count (λ b. every (below junior a b ∷ p b ∷ [])))
