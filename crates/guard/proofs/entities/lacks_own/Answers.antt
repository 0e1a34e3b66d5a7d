-- `lacks_own` is what its contract lists. Assumes nothing.
use mathlib.Core.Bool.{and-true}
use Rattle.bitset.specs.Tests.{every}
use Rattle.guard.proofs.entities.lacks_own.Goals as goal

pub returns : goal.returns
unfolding every
returns c = simp (c.has.ensures, and-true)
