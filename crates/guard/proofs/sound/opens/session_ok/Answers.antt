-- `guard::sound::opens::session_ok` is the test of one session. Assumes nothing.
use mathlib.Core.Path.{◌≡◌, sym, ◌∙◌}
use borrow.Author.Rules.{rules}
use Rattle.bitset.specs.Tests.Laws.{clash, not_of_true, not_of_false}
use Rattle.guard.specs.Tables.{no_session}
use Rattle.guard.proofs.Soundness.Cases.{session_none, session_dead, session_out, session_away, session_last}
use Rattle.guard.proofs.sound.opens.session_ok.Goals as goal
use Rattle.guard.proofs.sound.opens.session_ok.Goals.{then-session_in_range-contains, else-session_in_range-contains}

pub returns-then-not-s : goal.returns-then-not-s
returns-then-not-s c =
    let a = c.args in
    let none : c.default.result ≡ no_session = search (rules, c.default.ensures) in
    session_dead a.labels.now a.roles a.edition a.level a.s _ c.if-not-s.true (session_none a.s _ _ c.if-not-s.true none c.eq.ensures)

pub returns-then-levels_allowed : goal.returns-then-levels_allowed
returns-then-levels_allowed c =
    let a = c.args in
    elim c.if-session_in_range-contains.branch [
      | then-session_in_range-contains w ↦ session_last a.labels.now a.roles a.edition a.level a.s _ _ _ _ c.if-not-s.false c.session_in_range.ensures c.contains.ensures (not_of_true _ w.if-session_in_range-contains.true) w.levels_allowed.ensures (not_of_true _ (sym w.value-is ∙ c.if-levels_allowed.true)) c.labels_allowed.ensures
      | else-session_in_range-contains w ↦ absurd (clash _ c.if-levels_allowed.true (w.value-is ∙ w.if-session_in_range-contains.false))
    ]

pub returns-else-levels_allowed : goal.returns-else-levels_allowed
returns-else-levels_allowed c =
    let a = c.args in
    let no = c.if-levels_allowed.false in
    elim c.if-session_in_range-contains.branch [
      | then-session_in_range-contains w ↦ no ∙ session_away a.labels.now a.roles a.edition a.level a.s _ c.if-not-s.false w.levels_allowed.ensures (not_of_false _ (sym w.value-is ∙ no))
      | else-session_in_range-contains w ↦ no ∙ session_out a.labels.now a.roles a.edition a.level a.s _ _ c.if-not-s.false c.session_in_range.ensures c.contains.ensures (not_of_false _ w.if-session_in_range-contains.false)
    ]
