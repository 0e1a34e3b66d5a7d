-- The firms of users and roles.
--     firm_of_user     a role whose firm a user is of is of the user's firm
-- Assumes nothing.
use Prim.Native.Nat.{ℕ}
use mathlib.Core.Path.{◌≡◌}
use mathlib.Core.Bool.{true}
use Rattle.guard.specs.Private.Firm.{same_firm, user_firm, role_firm}
use Rattle.guard.specs.declared.firm.Firm.{Firm}
use Rattle.guard.specs.declared.firm.Firm.TheVariants.{House, Agents}

turned : (f g : Firm) → same_firm f g ≡ true → same_firm g f ≡ true
unfolding same_firm
turned House House h = h
turned House Agents h = h
turned Agents House h = h
turned Agents Agents h = h

pub firm_of_user : (u r : ℕ) → same_firm (user_firm u) (role_firm r) ≡ true → same_firm (role_firm r) (user_firm u) ≡ true
firm_of_user u r = turned (user_firm u) (role_firm r)
