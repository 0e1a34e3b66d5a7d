-- `roles_ok` tests each role in turn, and lists those that are live. Assumes nothing.
use mathlib.Core.Bool.{true}
use mathlib.Core.Path.{◌≡◌}
use lib.ListN.{get_or}
use Rattle.bitset.specs.Tests.{all}
use Rattle.guard.specs.Tables.{no_role}
use Rattle.guard.specs.Private.Tested.{grantable_in, role_test}
use Rattle.guard.proofs.Soundness.Loops.{Listed}
use Rattle.guard.proofs.sound.rights.roles_ok.Given as goal

abbrev pub invariant-loop-i : goal.invariant-loop-i
invariant-loop-i l =
    (all l.i (λ k. role_test (grantable_in l.live k) k (get_or l.roles k no_role)) ≡ true) × Listed 16 (λ k. (get_or l.roles k no_role).live) l.i l.found
