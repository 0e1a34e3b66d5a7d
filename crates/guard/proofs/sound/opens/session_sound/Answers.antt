-- `guard::sound::opens::session_sound` is the test of one session and of what backs its opens. Assumes nothing.
use Rattle.bitset.specs.Tests.Laws.{not_of_true, not_of_false}
use Rattle.guard.proofs.Soundness.Tests.{two_miss, two_last}
use Rattle.guard.proofs.sound.opens.session_sound.Goals as goal

pub returns-then-not-session_ok : goal.returns-then-not-session_ok
returns-then-not-session_ok c roles G = two_miss _ _ _ c.session_ok.ensures (not_of_false _ c.if-not-session_ok.true)

pub returns : goal.returns
returns c roles G = two_last _ _ _ _ c.session_ok.ensures (not_of_true _ c.if-not-session_ok.false) (c.is_backed.ensures roles G)
