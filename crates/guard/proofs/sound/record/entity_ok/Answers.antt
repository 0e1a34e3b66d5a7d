-- `guard::sound::record::entity_ok` is what its contract lists, in three cases. Assumes nothing.
use mathlib.Core.Path.{◌≡◌}
use borrow.Author.Rules.{rules}
use borrow.Author.Tests.{eq-eqb, ne_eqb}
use Rattle.guard.specs.Tables.{no_entity}
use Rattle.guard.proofs.Soundness.Cases.{entity_none, entity_dead_lem, entity_root, entity_other}
use Rattle.guard.proofs.sound.record.entity_ok.Goals as goal

pub returns-then-not-n : goal.returns-then-not-n
returns-then-not-n c =
    let a = c.args in
    let n = a.n.now in
    let p = a.p.now in
    let none : c.default.result ≡ no_entity = search (rules, c.default.ensures) in
    entity_dead_lem a.e n p _ c.if-not-n.true (entity_none n _ _ c.if-not-n.true none c.eq.ensures)

pub returns-then-e-eq0 : goal.returns-then-e-eq0
returns-then-e-eq0 c =
    let a = c.args in
    let n = a.n.now in
    let p = a.p.now in
    entity_root a.e n p _ c.if-not-n.false (eq-eqb _ _ c.if-e-eq0.true) c.is_root_record.ensures

pub returns : goal.returns
returns c =
    let a = c.args in
    let n = a.n.now in
    let p = a.p.now in
    entity_other a.e n p _ _ c.if-not-n.false (ne_eqb _ _ c.if-e-eq0.false) c.entity_fits.ensures c.fits_in.ensures
