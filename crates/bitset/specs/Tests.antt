-- Tests made of tests, shut so that a proof sees them as one thing: laws are in Tests/Laws.
use Rattle.std.specs.Prelude.{ℕ, zero, suc, Bool, true, false, ◌&&◌, ◌||◌, List, [], ◌∷◌}
pub mod Laws

-- each test of the list is met
unfoldable pub every : List Bool → Bool
every [] = true
every (b ∷ bs) = b && every bs

-- one of the two is met
unfoldable pub either : Bool → Bool → Bool
either a b = a || b

-- where the first is met, so is the second
unfoldable pub implies : Bool → Bool → Bool
implies true b = b
implies false b = true

-- the test is met at each number below n
unfoldable pub all : ℕ → (ℕ → Bool) → Bool
all zero p = true
all (suc n) p = all n p && p n

-- the test is met at some number below n
unfoldable pub some : ℕ → (ℕ → Bool) → Bool
some zero p = false
some (suc n) p = some n p || p n
