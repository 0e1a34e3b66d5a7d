-- `without_entity` takes the rights on an entity from each role. Assumes nothing.
use mathlib.Core.Path.{◌≡◌}
use Rattle.guard.specs.Edits.{clear_rights}
use Rattle.guard.proofs.Sweeps.{mapped}
use Rattle.guard.proofs.roles.without_entity.Given as goal

abbrev pub invariant-loop-p : goal.invariant-loop-p
invariant-loop-p l = l.p-items ≡ mapped (clear_rights l.e) l.p-index l.fn.roles
