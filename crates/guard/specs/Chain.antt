-- The chain of parents, and what the paper says by "reaches".
use Rattle.std.specs.Prelude.{ℕ, zero, suc, Bool, true, [], ◌∷◌}
use Rattle.bitset.specs.Tests.{every, either}
use Rattle.guard.specs.Level.{is_root, entities_per_level}
use Rattle.guard.specs.Tables.{entity_at, has_right, execute}
use Rattle.guard.specs.declared.Tables.{Tables}

-- The chain of parents from e ends at the root within n steps, and p holds of each container on it above e, up to and
-- with the root; for a root there is none above. (proofs/Laws/Sound/Chains: in sound tables this
-- is the paper's chain, of any number of steps.)
unfoldable pub climbs : (ℕ → ℕ) → (ℕ → Bool) → ℕ → ℕ → Bool
climbs parent p zero e = is_root e
climbs parent p (suc n) e = either (is_root e) (every (p (parent e) ∷ climbs parent p n (parent e) ∷ []))

abbrev pub parent_of : Tables → ℕ → ℕ
parent_of t e = (entity_at t e).parent

-- a chain of parents that ends at the root
unfoldable pub ends_at_root : Tables → ℕ → Bool
ends_at_root t e = climbs (parent_of t) (λ c. true) entities_per_level e

-- "x reaches e" means that x has execute on every container above e, up to and with the root; for a root there is none
-- above.
unfoldable pub reaches : Tables → ℕ → ℕ → Bool
reaches t x e = climbs (parent_of t) (has_right t x execute) entities_per_level e
