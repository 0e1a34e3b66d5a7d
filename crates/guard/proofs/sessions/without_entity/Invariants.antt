-- `without_entity` closes an entity in each session. Assumes nothing.
use mathlib.Core.Path.{◌≡◌}
use Rattle.guard.specs.Edits.{close_both}
use Rattle.guard.proofs.Sweeps.{mapped}
use Rattle.guard.proofs.sessions.without_entity.Given as goal

abbrev pub invariant-loop-s : goal.invariant-loop-s
invariant-loop-s l = l.s-items ≡ mapped (close_both l.e) l.s-index l.fn.sessions
