-- `names_step`: the names line, once it is there. Each return is a law of StepReturns. Assumes nothing.
use Rattle.script.proofs.StepReturns.{names_whole_step, names_cut_step}
use Rattle.script.proofs.runner.names_step.Goals as goal

pub returns-then-e-piece : goal.returns-then-e-piece
returns-then-e-piece c =
    rw c.using.ensures (names_whole_step _ _ _ c.find-e.ensures c.requires c.if-out-lt-LINE_ROOM.false c.if-e-piece.true c.take_names.ensures)

pub returns-then-end-e : goal.returns-then-end-e
returns-then-end-e c =
    rw c.using-then-end-e.ensures (names_cut_step _ _ _ c.find-e.ensures c.requires c.if-out-lt-LINE_ROOM.false c.if-e-piece.false c.if-end-e.true c.take_names-then-end-e.ensures)
