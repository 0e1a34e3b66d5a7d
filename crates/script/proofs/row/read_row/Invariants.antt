-- `script::row::read_row` meets its contract. The loop's invariant: the numbers so far stand under their names. The measure is
-- what is left of the slice. Assumes nothing.
use Prim.Native.Nat.{◌-◌}
use lib.ListN.{length}
use Rattle.script.proofs.RowLoop.{Filled}
use Rattle.script.proofs.row.read_row.Given as goal

abbrev pub invariant-loop-from : goal.invariant-loop-from
invariant-loop-from l = Filled l.s l.at l.vals l.given l.from l.j

abbrev pub decreases-loop-from : goal.decreases-loop-from
decreases-loop-from l = length l.s - l.from
