-- `too_low` is what its contract lists. Assumes nothing.
use mathlib.Core.Bool.{and-true}
use Rattle.bitset.specs.Tests.{every}
use Rattle.guard.proofs.opens.too_low.Goals as goal

pub returns : goal.returns
unfolding every
returns c = simp and-true
