-- `script::text::key` gathers the bytes of a short text into one number. Assumes nothing.
use Rattle.script.proofs.ByKey.{Packed}
use Rattle.script.proofs.text.key.Given as goal

abbrev pub invariant-loop-b : goal.invariant-loop-b
invariant-loop-b l = Packed l.s l.k l.b-index
