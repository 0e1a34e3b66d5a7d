-- `roles_ok` tests each role in turn, and lists those that are live. Assumes nothing.
use Prim.Native.Nat.{◌<◌}
use native.Mathlib.Nat.{mod-eq_of_lt}
use native.Mathlib.Omega.{arith}
use mathlib.Core.Path.{◌∙◌}
use lib.ListN.{get_or}
use Rattle.bitset.specs.Tests.Laws.{not_of_true, not_of_false, all_none}
use Rattle.guard.specs.Tables.{no_role}
use Rattle.guard.proofs.Soundness.Loops.{all_miss, all_next, listed_none, listed_more}
use Rattle.guard.proofs.Soundness.Grants.{role_masked}
use Rattle.guard.proofs.sound.rights.roles_ok.Goals.{then-role, else-role}
use Rattle.guard.proofs.sound.rights.roles_ok.Goals as goal

pub loop-i-init : goal.loop-i-init
loop-i-init c = (all_none _, listed_none 16 _ (omega arith))

pub returns-then-not-role_ok-clause-ok : goal.returns-then-not-role_ok-clause-ok
returns-then-not-role_ok-clause-ok c =
    all_miss _ c.loop-i.i _ _ (omega arith)
    (c.role_ok.ensures ∙ role_masked c.args.live c.to_level.result c.loop-i.i (get_or c.args.roles.now c.loop-i.i no_role) c.to_level.ensures)
    (not_of_false _ c.if-not-role_ok.true)

pub loop-i-preserved : goal.loop-i-preserved
loop-i-preserved c =
    let b = c.loop-i.invariant in (
      all_next _ _ _ b.0 (c.role_ok.ensures ∙ role_masked c.args.live c.to_level.result c.loop-i.i (get_or c.args.roles.now c.loop-i.i no_role) c.to_level.ensures) (not_of_true _ c.if-not-role_ok.false),
      listed_more 16 _ _ _ _ (omega arith) b.1 (elim c.if-role.branch [
        | then-role w ↦ let l : c.loop-i.i < 16 = omega arith in rw (w.found-is, w.with-found.ensures, mod-eq_of_lt l, w.if-role.true)
        | else-role w ↦ rw (w.found-is, w.if-role.false)
      ]),
    )
