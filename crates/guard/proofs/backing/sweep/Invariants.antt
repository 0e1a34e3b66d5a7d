-- `sweep` takes each session by `left`. Assumes nothing.
use mathlib.Core.Path.{◌≡◌}
use Rattle.guard.specs.Private.Scan.{left_by}
use Rattle.guard.proofs.Sweeps.{mapped}
use Rattle.guard.proofs.backing.sweep.Given as goal

abbrev pub invariant-loop-s : goal.invariant-loop-s
invariant-loop-s l = l.sessions ≡ mapped (left_by l.roles l.r l.lost l.unmade) l.s-index l.initial.sessions
