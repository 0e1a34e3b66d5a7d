-- `script::text::end_of` meets its contract. Assumes nothing.
use native.Mathlib.Omega.{arith}
use Rattle.script.proofs.FirstValue.{rest_within}
use Rattle.script.proofs.text.end_of.Goals as goal

pub overflow_add-result : goal.overflow_add-result
overflow_add-result c =
    omega (arith, rest_within 10 c.args.from c.args.s.now c.requires c.find-e.ensures)
