-- `sweep` takes each session by `left`. Assumes nothing.
use Rattle.guard.specs.Tables.{no_session}
use Rattle.guard.proofs.Sweeps.{mapped_step}
use Rattle.guard.proofs.backing.sweep.Goals as goal

pub loop-s-preserved : goal.loop-s-preserved
loop-s-preserved c = mapped_step _ _ _ _ no_session _ c.loop-s.invariant c.left.ensures
