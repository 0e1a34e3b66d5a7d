-- `without_entity` closes an entity in each session. Assumes nothing.
use Rattle.guard.specs.Tables.{no_session}
use Rattle.guard.proofs.Sweeps.{mapped_step}
use Rattle.guard.proofs.sessions.without_entity.Goals as goal

pub loop-s-preserved : goal.loop-s-preserved
loop-s-preserved c = mapped_step _ _ _ _ no_session _ c.loop-s.invariant c.closed.ensures
