-- `take_names` takes the order of a good names line, and answers a bad one by `1 17`. Assumes nothing.
use Rattle.script.specs.Private.Steps.{good, bad}
use Rattle.script.proofs.Texts.{line_of}
use Rattle.script.proofs.runner.take_names.Goals as goal

pub returns-in_default : goal.returns-in_default
returns-in_default c = bad (rw c.in_default.is at c.header.ensures) (line_of _ c.numeral_of.ensures c.put_line-wrote.ensures)

pub returns : goal.returns
returns c = good _ (rw c.in-Some.is at c.header.ensures)
