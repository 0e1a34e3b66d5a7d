-- `sound_by` is `sound`: a part that fails shows tables that are not sound, and the last part decides. Assumes nothing.
use mathlib.Core.Path.{refl, sym}
use Rattle.bitset.specs.Tests.Laws.{not_of_true, not_of_false, every_i, every_at}
use Rattle.guard.proofs.Soundness.Tests.{and_two}
use Rattle.guard.proofs.Soundness.Loops.{long}
use Rattle.guard.proofs.Soundness.Whole.{refuted, met, decided, keys_small, edition_pass, users_pass, entities_pass, chains_pass, names_pass, roles_pass, ties_pass}
use Rattle.guard.proofs.Tables.sound_by.Goals as goal

pub returns-then-not-users_in_range-edition_in_range : goal.returns-then-not-users_in_range-edition_in_range
returns-then-not-users_in_range-edition_in_range c = refuted _ _ _ (and_two _ _ _ _ c.users_in_range.ensures c.edition_in_range.ensures) (λ h. every_i _ (users_pass _ h, (edition_pass _ h, tt))) (not_of_false _ c.if-not-users_in_range-edition_in_range.true)

pub returns-then-not-entities_ok : goal.returns-then-not-entities_ok
returns-then-not-entities_ok c = refuted _ _ _ c.entities_ok.ensures (entities_pass _) (not_of_false _ c.if-not-entities_ok.true)

pub returns-then-not-end_at_root : goal.returns-then-not-end_at_root
returns-then-not-end_at_root c = refuted _ _ _ c.end_at_root.ensures (λ h. chains_pass _ h _ c.requires) (not_of_false _ c.if-not-end_at_root.true)

pub returns-then-not-have_own_keys : goal.returns-then-not-have_own_keys
returns-then-not-have_own_keys c = refuted _ _ _ c.have_own_keys.ensures (λ h. names_pass _ h _ c.requires) (not_of_false _ c.if-not-have_own_keys.true)

pub live_set-live-requires : goal.live_set-live-requires
live_set-live-requires c =
    keys_small c.args.self.now _ c.requires (met _ _ c.entities_ok.ensures (not_of_true _ c.if-not-entities_ok.false))

pub returns-in_default : goal.returns-in_default
returns-in_default c =
    refuted _ _ _ c.roles_ok.ensures.ok (λ h. roles_pass _ h _ c.live_set-live.result c.requires c.live_set-live.ensures) (rw c.in_default.is refl)

pub returns-then-not-ties_ok : goal.returns-then-not-ties_ok
returns-then-not-ties_ok c = refuted _ _ _ c.ties_ok.ensures (λ h. ties_pass _ h _ c.in-Some.ensures.live) (not_of_false _ c.if-not-ties_ok.true)

pub returns : goal.returns
returns c =
    let begun = every_at _ (met _ _ (and_two _ _ _ _ c.users_in_range.ensures c.edition_in_range.ensures) (not_of_true _ c.if-not-users_in_range-edition_in_range.false)) in
    decided c.args.self.now _ c.labels-labels.result c.live_set-live.result _
    (record {
      users = search (long, c.well_formed.0);
      sessions = search (long, c.well_formed.0);
      roles = search (long, c.well_formed.0);
      entities = search (long, c.well_formed.0);
    }) c.requires c.live_set-live.ensures c.labels-labels.ensures c.in-Some.ensures.live
    (begun 1)
    (begun 0)
    (met _ _ c.entities_ok.ensures (not_of_true _ c.if-not-entities_ok.false))
    (met _ _ c.end_at_root.ensures (not_of_true _ c.if-not-end_at_root.false))
    (met _ _ c.have_own_keys.ensures (not_of_true _ c.if-not-have_own_keys.false))
    (sym c.in-Some.ensures.ok)
    (met _ _ c.ties_ok.ensures (not_of_true _ c.if-not-ties_ok.false))
    _ c.sessions_ok.ensures
