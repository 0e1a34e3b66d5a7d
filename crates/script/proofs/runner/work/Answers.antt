-- `work`: the loop over a piece. The invariant says what is left to tell from here (Held of PieceLoop), the measure is what
-- is left of the piece. Assumes nothing.
use Rattle.script.proofs.PieceLoop.{loop_more, loop_done}
use Rattle.script.proofs.runner.work.Goals as goal

pub returns-then-ran-eq0 : goal.returns-then-ran-eq0
returns-then-ran-eq0 c =
    loop_done c.loop-room.invariant.1 c.one-ran.auto.out c.one-ran.ensures c.if-ran-eq0.true

pub loop-room-preserved : goal.loop-room-preserved
loop-room-preserved c =
    (c.one-ran.ensures.begun, loop_more c.loop-room.invariant.1 c.one-ran.auto.out c.one-ran.ensures)
