-- `script::print::put_heading` stores the heading. Assumes nothing.
use mathlib.Core.Path.{refl}
use Rattle.script.specs.Text.{bytes}
use Rattle.script.specs.Report.{heading}
use Rattle.script.proofs.Texts.{put_part}
use Rattle.script.proofs.print.put_heading.Goals as goal

pub returns : goal.returns
unfolding heading bytes
returns c = rw c.copy_from_slice.ensures.after (put_part c.args.out.now heading 0 12 refl c.requires refl)
