-- `script::print::put_decimal` stores the digits from the first that is no leading zero. Assumes nothing.
use native.Mathlib.Omega.{arith}
use mathlib.Core.Path.{refl}
use Rattle.script.specs.Text.{decimal}
use Rattle.script.proofs.Texts.{put_nil, put_cons, put_then}
use Rattle.script.proofs.print.put_decimal.Goals as goal

pub returns : goal.returns
unfolding decimal
returns c = (
  put_then c.put_place-i.ensures.0
      (put_then c.put_place-j.ensures.0
      (put_then c.put_place-k.ensures.0
      (put_then c.put_place-l.ensures.0 (rw (← c.args.x.first) (put_cons refl put_nil))))),
  omega arith,
)
