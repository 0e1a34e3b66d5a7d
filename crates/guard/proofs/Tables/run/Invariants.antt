-- `run` is the log of its rows: each turn of the loop looks up what a request concerns, decides it and stores what it does. Assumes nothing.
use mathlib.Core.Path.{◌≡◌}
use Rattle.guard.specs.Batch.{batch_count}
use Rattle.guard.proofs.Turns.{Held}
use Rattle.guard.proofs.Tables.run.Given as goal

abbrev pub invariant-loop-i : goal.invariant-loop-i
invariant-loop-i l = (l.count ≡ batch_count l.rows l.initial.answers l.initial.roles) × Held l.initial.self l.rows l.initial.answers l.initial.roles l.i l.self l.answers l.roles l.keys
