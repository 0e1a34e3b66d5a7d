-- `backed` is the session with those of its opens that the rights gathered give. Assumes nothing.
use native.Mathlib.Omega.{arith}
use Rattle.guard.proofs.BackedOpens.{opens_kept}
use Rattle.guard.proofs.backing.backed.Goals as goal

pub returns : goal.returns
returns c = opens_kept _ _ _ (omega arith) (omega arith) c.gather-rights.ensures
