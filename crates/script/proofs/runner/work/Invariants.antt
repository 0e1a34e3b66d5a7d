-- `work`: the loop over a piece. The invariant says what is left to tell from here (Held of PieceLoop), the measure is what
-- is left of the piece. Assumes nothing.
use Prim.Native.Nat.{◌-◌}
use lib.ListN.{length}
use Rattle.std.specs.Prelude.{◌≢◌}
use Rattle.script.specs.declared.runner.Phase.TheVariants.{Heading}
use Rattle.script.proofs.PieceLoop.{Held}
use Rattle.script.proofs.runner.work.Given as goal

abbrev pub invariant-loop-room : goal.invariant-loop-room
invariant-loop-room l = (l.held.phase ≢ Heading) × Held l.piece l.end l.initial.out l.initial.held l.out l.held l.at l.wrote

abbrev pub decreases-loop-room : goal.decreases-loop-room
decreases-loop-room l = length l.piece - l.at
