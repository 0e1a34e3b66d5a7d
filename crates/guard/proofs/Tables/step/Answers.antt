-- `step` is a run of one row. Assumes nothing.
use mathlib.Core.Path.{refl}
use Rattle.guard.proofs.Turns.{one_request}
use Rattle.guard.proofs.Tables.step.Goals as goal

pub returns : goal.returns
returns c =
    one_request _ _ _ _ _ _ _ _ _ _ c.row-row.ensures refl refl c.run-tables.ensures refl c.read.ensures
