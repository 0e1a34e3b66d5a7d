-- `guard::sound::tree::live_set` collects what is dead, from the last entity down, and gives the others. Assumes nothing.
use borrow.Author.Rules.{rules}
use Rattle.guard.proofs.Soundness.DeadSet.{left_all, left_next, left_end}
use Rattle.guard.proofs.sound.tree.live_set.Goals as goal

pub loop-key-init : goal.loop-key-init
loop-key-init c = left_all c.args.keys.now _ c.told-keys (search (rules, c.iter.ensures.rest))

pub loop-key-preserved : goal.loop-key-preserved
loop-key-preserved c = rw c.from.ensures (left_next c.args.keys.now _ _ _ _ c.requires c.loop-key.invariant c.in-Some.ensures.steps)

pub returns : goal.returns
returns c = left_end c.args.keys.now _ _ c.loop-key.invariant c.in-None.ensures.steps.0
