-- `one`: the step of the runner's phase; whole lines of values go as one batch. Assumes nothing.
use borrow.Author.Rules.{rules}
use Rattle.script.proofs.BatchStep.{batch_done}
use Rattle.script.proofs.runner.one.Goals as goal

pub returns : goal.returns
returns c =
    batch_done _ _ _ _ _ _ _ _ _ _ _ _ _ _ _
    c.in-Lines.is
    c.if-r.false c.most-most.ensures c.gather-g.ensures c.if-lines-eq0.false (search rules) (search rules) c.run-next.ensures c.put_answers-wrote.ensures
