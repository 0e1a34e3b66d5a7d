-- `guard::sound::tree::live_set` collects what is dead, from the last entity down, and gives the others. Assumes nothing.
use Rattle.guard.proofs.Soundness.DeadSet.{Left}
use Rattle.guard.proofs.sound.tree.live_set.Given as goal

abbrev pub invariant-loop-key : goal.invariant-loop-key
invariant-loop-key l = Left l.keys l.key-iterator.iter.rest.now l.dead
