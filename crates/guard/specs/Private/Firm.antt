-- The service agents: a movement maker's agents sign in on the same tables. There are two firms, the house and the agents. No rule
-- speaks of them yet.
use Rattle.std.specs.Prelude.{ℕ, ◌%◌, Bool, true, false, not, cond, leb, eqb}
use Rattle.guard.specs.Kind as kind
use Rattle.guard.specs.declared.Request.{Request}
use Rattle.guard.specs.declared.firm.Firm.{Firm}
use Rattle.guard.specs.declared.firm.Firm.TheVariants.{House, Agents}

-- whether two firms are one
unfoldable pub same_firm : Firm → Firm → Bool
same_firm House House = true
same_firm House Agents = false
same_firm Agents House = false
same_firm Agents Agents = true

-- Users 8 to 15 are the agents', ..
unfoldable pub user_firm : ℕ → Firm
user_firm u = cond (leb 8 u) Agents House

-- .. and so are the roles whose number leaves 2 or 3 when divided by 4.
unfoldable pub role_firm : ℕ → Firm
role_firm r = cond (leb 2 (r % 4)) Agents House

-- what 25 asks of the two requests that have it: of list whether the user, of join whether the junior is of another firm than the role
unfoldable pub across_firms : Request → Bool
across_firms q =
    cond (eqb q.call kind.list) (not (same_firm (user_firm q.user) (role_firm q.role)))
    (cond (eqb q.call kind.join) (not (same_firm (role_firm q.junior) (role_firm q.role))) false)
