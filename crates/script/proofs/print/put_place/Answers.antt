-- `script::print::put_place` stores one digit, or nothing for a leading zero. Assumes nothing.
use native.Mathlib.Omega.{arith}
use mathlib.Core.Path.{refl}
use Rattle.script.proofs.Texts.{put_nil, put_cons, place_hit, place_miss}
use Rattle.script.proofs.print.put_place.Goals as goal

pub returns-then-n-p : goal.returns-then-n-p
returns-then-n-p c = (place_miss c.if-n-p.true, omega arith)

pub returns : goal.returns
returns c = (place_hit c.if-n-p.false (rw (← c.requires.0) (put_cons refl put_nil)), omega arith)
