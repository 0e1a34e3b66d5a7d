-- `without_entity` takes the rights on an entity from each role. Assumes nothing.
use Rattle.guard.specs.Tables.{no_role}
use Rattle.guard.proofs.Sweeps.{mapped_step}
use Rattle.guard.proofs.roles.without_entity.Goals as goal

pub loop-p-preserved : goal.loop-p-preserved
loop-p-preserved c = mapped_step _ _ _ _ no_role _ c.loop-p.invariant c.cleared.ensures
