-- `script::header::header` meets its contract. The loop's invariant: the names so far, and the set of those seen. Assumes nothing.
use lib.ListN.{length}
use Rattle.script.proofs.HeaderLoop.{Seen}
use Rattle.script.proofs.header.header.Given as goal

abbrev pub invariant-loop-j : goal.invariant-loop-j
invariant-loop-j l =
    (goal.iterator-loop-j).can_next l.j-iterator × (goal.iterator-loop-j).is_finite l.j-iterator × Seen l.s l.at l.seen (length l.yielded)
