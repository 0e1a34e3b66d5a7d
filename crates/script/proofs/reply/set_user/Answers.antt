-- `set_user` answers the word `user`: 17 once it is shut, 2 out of its ranges, else 0 with the record set. Assumes nothing.
use mathlib.Core.Path.{sym}
use Rattle.script.specs.Report.{with_user}
use Rattle.script.proofs.Replies.{inside, set_shut, set_outside, set_inside}
use Rattle.script.proofs.reply.set_user.Goals as goal

pub returns-then-b : goal.returns-then-b
returns-then-b c = sym (set_shut _ _ c.if-b.true)

pub returns-then-u : goal.returns-then-u
returns-then-u c = sym (set_outside _ _ c.if-b.false c.if-u.true)

pub returns : goal.returns
unfolding with_user
returns c = sym (set_inside _ _ c.if-b.false (inside _ c.if-u.false))
