-- Which role a check of a right tells: `Some r` tells role r, `None` that none is told.
use Rattle.std.specs.Prelude.{ℕ, zero, suc, Bool, cond, Option, Some, None}
use Rattle.std.specs.Option.{option_or}

-- the lowest number below n at which the test is met, or none
unfoldable pub lowest : ℕ → (ℕ → Bool) → Option ℕ
lowest zero p = None
lowest (suc n) p = option_or (lowest n p) (cond (p n) (Some n) None)

-- The number of each case, as a batch has it: a role's own, and for none 255, which is no role's.
unfoldable pub role_byte : Option ℕ → ℕ
role_byte (Some r) = r
role_byte None = 255
