-- `sessions_ok` tests each session in turn. Assumes nothing.
use mathlib.Core.Bool.{true}
use mathlib.Core.Path.{◌≡◌}
use mathlib.Core.List.{[], ◌∷◌}
use lib.ListN.{get_or}
use Rattle.bitset.specs.Tests.{every, all}
use Rattle.guard.specs.Level.{session_level}
use Rattle.guard.specs.Tables.{no_session}
use Rattle.guard.specs.Private.Tested.{session_test}
use Rattle.guard.specs.Private.Scan.{Gathered, opens_given}
use Rattle.guard.proofs.sound.opens.sessions_ok.Given as goal

abbrev pub invariant-loop-s : goal.invariant-loop-s
invariant-loop-s l = Gathered l.roles l.held l.rights × (all l.s (λ k. every (session_test l.labels l.live l.edition (session_level k) (get_or l.sessions k no_session) ∷ opens_given l.roles (get_or l.sessions k no_session) ∷ [])) ≡ true)
