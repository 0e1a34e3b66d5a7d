-- `guard::sound::opens::levels_allowed`: each mask test is the test of each member. Assumes nothing.
use native.Mathlib.Omega.{arith}
use mathlib.Core.Path.{◌∙◌}
use Rattle.guard.proofs.Soundness.Tests.{and_two, unless}
use Rattle.guard.proofs.Soundness.Members.{within_mask}
use Rattle.guard.proofs.sound.opens.levels_allowed.Goals as goal

pub returns : goal.returns
returns c =
    and_two _ _ _ _ (unless _ _ _ (c.contains.ensures ∙ within_mask 64 _ _ _ (omega arith) c.from_level.ensures))
    (c.contains-2.ensures ∙ within_mask 64 _ _ _ (omega arith) c.to_level.ensures)
