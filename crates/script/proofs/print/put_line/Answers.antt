-- `script::print::put_line` stores the number, a space, the answer and byte 10. Assumes nothing.
use mathlib.Core.Path.{refl}
use Rattle.script.specs.Report.{line_text}
use Rattle.script.proofs.Texts.{put_nil, put_cons, put_then}
use Rattle.script.proofs.print.put_line.Goals as goal

pub returns : goal.returns
unfolding line_text
returns c =
    put_then c.put_decimal-i.ensures.0
    (put_cons refl (put_then (rw c.numeral_of-answer.ensures at c.put_decimal-j.ensures.0) (put_cons refl put_nil)))
