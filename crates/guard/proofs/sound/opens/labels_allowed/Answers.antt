-- `guard::sound::opens::labels_allowed` tests what is read and what is written. Assumes nothing.
use mathlib.Core.Path.{◌∙◌}
use Rattle.bitset.specs.Tests.Laws.{not_of_true, not_of_false}
use Rattle.guard.proofs.Soundness.Tests.{two_miss, two_last}
use Rattle.guard.proofs.sound.opens.labels_allowed.Goals as goal

pub returns-then-dominates_each : goal.returns-then-dominates_each
returns-then-dominates_each c =
    two_last _ _ _ _ c.dominates_each.ensures (not_of_true _ c.if-dominates_each.true) (rw c.packed.ensures at c.equals_each.ensures)

pub returns-else-dominates_each : goal.returns-else-dominates_each
returns-else-dominates_each c =
    c.if-dominates_each.false ∙ two_miss _ _ _ c.dominates_each.ensures (not_of_false _ c.if-dominates_each.false)
