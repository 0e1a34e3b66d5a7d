-- `sessions_ok` tests each session in turn. Assumes nothing.
use native.Mathlib.Omega.{arith}
use Rattle.bitset.specs.Tests.Laws.{not_of_true, not_of_false, all_none}
use Rattle.guard.proofs.Soundness.Loops.{all_miss, all_next}
use Rattle.guard.proofs.sound.opens.sessions_ok.Goals as goal

pub loop-s-init : goal.loop-s-init
loop-s-init c = (c.gather-rights.ensures, all_none _)

pub returns-then-not-session_sound : goal.returns-then-not-session_sound
returns-then-not-session_sound c =
    all_miss _ c.loop-s.s _ _ (omega arith)
    (c.session_sound.ensures _ c.regather-rights.ensures) (not_of_false _ c.if-not-session_sound.true)

pub loop-s-preserved : goal.loop-s-preserved
loop-s-preserved c =
    let rights = c.regather-rights.ensures in
    (rights, all_next _ _ _ c.loop-s.invariant.1 (c.session_sound.ensures _ rights) (not_of_true _ c.if-not-session_sound.false))
