-- `script::text::value` tells a dash and a number of at most five digits. Assumes nothing.
use Rattle.script.proofs.Texts.{Read}
use Rattle.script.proofs.text.value.Given as goal

abbrev pub invariant-loop-b : goal.invariant-loop-b
invariant-loop-b l = Read l.s l.n l.b-index
