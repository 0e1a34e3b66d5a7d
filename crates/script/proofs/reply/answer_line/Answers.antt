-- `answer_line` answers what a line asks, by its three forms; a request by the guard's step. Assumes nothing.
use mathlib.Core.Path.{ap, sym, ◌∙◌}
use Rattle.std.specs.Prelude.{Some}
use Rattle.script.specs.Report.{answer_line}
use Rattle.script.proofs.Replies.{ask_said}
use Rattle.script.proofs.reply.answer_line.Goals as goal

pub returns-in-Some-Ask : goal.returns-in-Some-Ask
returns-in-Some-Ask c = ask_said _ _ _ c.step-o.ensures ∙ ap (answer_line _) (sym (c.in-Some-Ask.is ∙ ap Some (rw c.in-Some-Ask.is at c.in-Some-Ask.field-0-is)))

pub returns-in-None : goal.returns-in-None
unfolding answer_line
returns-in-None c = ap (answer_line _) (sym c.in-None.is)
