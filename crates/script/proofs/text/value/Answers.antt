-- `script::text::value` tells a dash and a number of at most five digits. Assumes nothing.
use native.Mathlib.Omega.{arith}
use Rattle.script.proofs.Texts.{none_other, long_other, one_dash, dash_other, read_more, read_low, read_high, read_end}
use Rattle.script.proofs.text.value.Goals as goal

pub returns-then-s-eq0 : goal.returns-then-s-eq0
returns-then-s-eq0 c = none_other _ (omega arith)

pub returns-then-s-gt5 : goal.returns-then-s-gt5
returns-then-s-gt5 c = long_other _ (omega arith)

pub returns-then-s-eq1 : goal.returns-then-s-eq1
returns-then-s-eq1 c = one_dash _ (omega arith) c.if-s-eq45.true

pub returns-then-s-eq45 : goal.returns-then-s-eq45
returns-then-s-eq45 c = dash_other _ (omega arith) c.if-s-eq1.false (omega arith) c.if-s-eq45.true

pub returns-then-b-lt48 : goal.returns-then-b-lt48
returns-then-b-lt48 c = read_low c.loop-b.invariant (omega arith) (omega arith) c.if-s-eq45.false (omega arith) c.if-b-lt48.true

pub returns-then-b-gt57 : goal.returns-then-b-gt57
returns-then-b-gt57 c =
    read_high c.loop-b.invariant (omega arith) (omega arith) c.if-s-eq45.false (omega arith) c.if-b-gt57.true

pub loop-b-preserved : goal.loop-b-preserved
loop-b-preserved c =
    rw (c.append-n.ensures, c.from.ensures) (read_more c.loop-b.invariant (omega arith) c.if-b-lt48.false c.if-b-gt57.false)

pub returns : goal.returns
returns c = read_end c.loop-b.invariant (omega arith) (omega arith) c.if-s-eq45.false (omega arith)
