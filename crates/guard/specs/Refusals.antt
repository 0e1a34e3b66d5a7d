-- Refusals: a number with its condition.
use Rattle.std.specs.Prelude.{ℕ, Bool, cond, List, [], ◌∷◌}

pub record Refusal : Type 0 where
  pub number : ℕ
  pub met : Bool

infix 70 ◌when◌
abbrev pub ◌when◌ : ℕ → Bool → Refusal
n when b = record { number = n; met = b }

-- Answer 0 means done. Otherwise the answer is the lowest number below that applies to the request and whose condition
-- is met. (The order of a list decides: "22 .. comes between 12 and 13". But for join's each list of the nineteen requests
-- rises, so that its first number is its lowest: proofs/Laws/Requests.)
unfoldable pub first : List Refusal → ℕ
first [] = 0
first (c ∷ cs) = cond c.met c.number (first cs)
