-- `lost` joins what the two sets lost. Assumes nothing.
use Rattle.bitset.specs.Sets.{join}
use Rattle.guard.proofs.BackedOpens.{lost_as}
use Rattle.guard.proofs.backing.lost.Goals as goal

pub returns : goal.returns
unfolding join
returns c =
    lost_as _ _ _ _ _ c.gather-before.ensures c.gather-after.ensures _ _ c.minus.ensures c.minus-2.ensures
