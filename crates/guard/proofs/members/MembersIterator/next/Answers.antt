-- `Members::next` gives the lowest member and leaves the others. Assumes nothing.
use native.Mathlib.Omega.{arith}
use mathlib.Core.Path.{ap}
use lib.ListN.{length}
use borrow.Author.Rules.{rules}
use Rattle.guard.proofs.Soundness.Listed.{listed_none, listed_next}
use Rattle.guard.proofs.members.MembersIterator.next.Goals as goal

pub returns-then-self-eq0-clause-steps : goal.returns-then-self-eq0-clause-steps
returns-then-self-eq0-clause-steps c = (listed_none _ c.if-self-eq0.true, listed_none _ c.if-self-eq0.true)

pub returns-clause-steps : goal.returns-clause-steps
returns-clause-steps c = rw c.without-self.ensures (listed_next _ (omega arith) (omega arith))

pub returns-clause-goes : goal.returns-clause-goes
returns-clause-goes c =
    let next = ap length (rw (← c.without-self.ensures) at (listed_next c.args.self.now.0 (omega arith) (omega arith))) in
    search (rules, next)
