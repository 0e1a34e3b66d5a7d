-- `script::text::key` gathers the bytes of a short text into one number. Assumes nothing.
use native.Mathlib.Omega.{arith}
use Rattle.script.proofs.ByKey.{packed_small, packed_more, packed_end, key_long}
use Rattle.script.proofs.text.key.Goals as goal

pub returns-then-s-gt7 : goal.returns-then-s-gt7
returns-then-s-gt7 c = key_long _ (omega arith)

pub overflow_mul-k : goal.overflow_mul-k
overflow_mul-k c = omega (arith, packed_small c.loop-b.invariant (omega arith) (omega arith))

pub loop-b-preserved : goal.loop-b-preserved
loop-b-preserved c = rw c.from.ensures (packed_more c.loop-b.invariant (omega arith) (omega (arith, c.type_inv.s c.loop-b.b-index)))

pub returns : goal.returns
returns c = packed_end c.loop-b.invariant (omega arith) (omega arith)
