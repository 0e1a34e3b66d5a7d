-- `gather`: the loop over lines keeps Taken (GatherLoop). Assumes nothing.
use mathlib.Core.Path.{◌≡◌}
use lib.ListN.{length}
use Rattle.script.proofs.GatherLoop.{Taken}
use Rattle.script.proofs.batch.gather.Given as goal

abbrev pub invariant-loop-lines : goal.invariant-loop-lines
invariant-loop-lines l = (length l.rows ≡ length l.initial.rows) × (length l.marks ≡ length l.initial.marks) × Taken l.at l.s l.shut-2 l.rows l.marks l.count l.lines l.used l.shut
