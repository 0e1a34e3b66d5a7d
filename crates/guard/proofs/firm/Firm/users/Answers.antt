-- `users` of a firm: both masks, member by member. Assumes nothing.
use mathlib.Core.Path.{refl}
use Rattle.bitset.specs.Tests.{all}
use Rattle.bitset.specs.Sets.{has}
use Rattle.guard.specs.Private.Firm.{same_firm, user_firm}
use Rattle.guard.proofs.Soundness.Tests.{agree_e}
use Rattle.guard.proofs.firm.Firm.users.Goals as goal

pub returns-in-House : goal.returns-in-House
unfolding has all same_firm user_firm
returns-in-House c = rw c.in-House.is (agree_e 16 _ _ refl)

pub returns-in-Agents : goal.returns-in-Agents
unfolding has all same_firm user_firm
returns-in-Agents c = rw c.in-Agents.is (agree_e 16 _ _ refl)
