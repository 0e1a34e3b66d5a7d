-- The end of opens that are no longer backed, and the upper part for L. An upper session's opens of upper entities rest on upper roles
-- alone: "x has a right on e" asks for a role held of at least e's level; a role of at least an upper level is upper, and so is what is
-- below it, since ties stay in their level: the tables after the end have the same roles, and are sound. Which of these an upper session
-- holds, their ties, and their rights on upper entities, are in the upper part, so that equal upper parts lose the same opens, whatever
-- lower roles and lower entities there are. And what leaves the upper part of sound tables alone still does with the end of opens after
-- it: sound tables lose none.
--     ending_alike      equal upper parts stay equal
--     ending_hidden     an edit that leaves the upper part of sound tables alone, and the end of opens after it
-- Assumes nothing.
use Rattle.std.specs.Prelude.{ℕ, ◌≤◌, ◌<◌, ◌≡◌, Bool, true, ◌&&◌}
use Rattle.std.proofs.Math.Path.{sym, ap}
use Rattle.std.proofs.Common.{ap₂, subst, ◌∙◌, arith}
use Rattle.std.proofs.Math.Decide.{dec_lt}
use Rattle.std.proofs.Math.ListN.{get_or, get_or-eq_default}
use Rattle.bitset.specs.Sets.{has, keeping}
use Rattle.bitset.specs.Sets.Shift.{from_ext}
use Rattle.bitset.specs.Sets.Keeping.{has_keeping, has_past_keeping}
use Rattle.guard.specs.Level.{session_count, entity_count}
use Rattle.guard.specs.Tables.{no_session, session_at, read, write, has_right}
use Rattle.guard.specs.Sound.{sound}
use Rattle.guard.specs.Fresh.{tabulate}
use Rattle.guard.specs.Backed.{backed, end_unbacked}
use Rattle.isolation.specs.Upper.{first_session, first_entity, upper_session}
use Rattle.guard.specs.declared.Session.{Session}
use Rattle.guard.specs.declared.Tables.{Tables}
use Rattle.guard.proofs.Filling.{length_tabulate, get_d_tabulate}
use Rattle.guard.proofs.Laws.Sound.{formed_e, backed_e}
use Rattle.guard.proofs.Laws.Backed.{ends_nothing}
use Rattle.isolation.proofs.OneRequest.Lists.{seen_ext}
use Rattle.isolation.proofs.OneRequest.Views.{Same, session_same, live_same, user_same, label_same, reading_same, writing_same, has_right_same}

-- the members from k on of what two tests keep
keeping_alike : (p q : ℕ → Bool) (a b k : ℕ) → ((e : ℕ) → k ≤ e → has a e ≡ has b e) → ((e : ℕ) → k ≤ e → p e ≡ q e)
    → (e : ℕ) → k ≤ e → has (keeping entity_count p a) e ≡ has (keeping entity_count q b) e
keeping_alike p q a b k same tests e h = go (dec_lt e entity_count)
  where
    go : Dec (e < entity_count) → has (keeping entity_count p a) e ≡ has (keeping entity_count q b) e
    go (yes l) = has_keeping p a entity_count e l ∙ ap₂ ◌&&◌ (same e h) (tests e h) ∙ sym (has_keeping q b entity_count e l)
    go (no l) = has_past_keeping p a entity_count e (omega arith) ∙ same e h ∙ sym (has_past_keeping q b entity_count e (omega arith))

module _ (L : ℕ) (t u : Tables) (st : sound (end_unbacked t) ≡ true) (su : sound (end_unbacked u) ≡ true) (same : Same L t u) where
  backed_alike : (x : ℕ) → first_session L ≤ x → upper_session L (backed t x) ≡ upper_session L (backed u x)
  unfolding upper_session backed end_unbacked
  backed_alike x up =
      let right : (r e : ℕ) → first_entity L ≤ e → has_right t x r e ≡ has_right u x r e = λ r e.
      has_right_same L t u same (formed_e (end_unbacked t) st).ties (formed_e (end_unbacked u) su).ties x r e up in
      let reading = from_ext (first_entity L) _ _ (keeping_alike (has_right t x read) (has_right u x read) (session_at t x).reading (session_at u x).reading (first_entity L) (λ e. reading_same L t u same x e up) (right read)) in
      let writing = from_ext (first_entity L) _ _ (keeping_alike (has_right t x write) (has_right u x write) (session_at t x).writing (session_at u x).writing (first_entity L) (λ e. writing_same L t u same x e up) (right write)) in
      let held = ap (λ (s : Session). s.roles) (session_same L t u same x up) in
      λ i. record {
        live = live_same L t u same x up i;
        user = user_same L t u same x up i;
        label = label_same L t u same x up i;
        roles = held i;
        reading = reading i;
        writing = writing i;
      }

  pub ending_alike : Same L (end_unbacked t) (end_unbacked u)
  unfolding end_unbacked
  ending_alike =
      record {
        users = same.users;
        sessions = seen_ext _ _ (tabulate session_count (backed t)) (tabulate session_count (backed u)) no_session
            (length_tabulate (backed t) session_count ∙ sym (length_tabulate (backed u) session_count)) (λ x up. go x up (dec_lt x session_count));
        roles = same.roles;
        entities = same.entities;
        edition = same.edition;
      }
    where
      past : (v : Tables) (x : ℕ) → session_count ≤ x → get_or (tabulate session_count (backed v)) x no_session ≡ no_session
      past v x l = get_or-eq_default (tabulate session_count (backed v)) no_session (omega (arith, length_tabulate (backed v) session_count))

      go : (x : ℕ) → first_session L ≤ x → Dec (x < session_count)
          → upper_session L (get_or (tabulate session_count (backed t)) x no_session) ≡ upper_session L (get_or (tabulate session_count (backed u)) x no_session)
      go x up (yes l) = rw (get_d_tabulate (backed t) session_count x no_session l, get_d_tabulate (backed u) session_count x no_session l) (backed_alike x up)
      go x up (no l) = rw (past t x (omega arith), past u x (omega arith))

pub ending_hidden : (L : ℕ) (t v : Tables) → sound t ≡ true → sound (end_unbacked v) ≡ true → Same L v t → Same L (end_unbacked v) t
ending_hidden L t v st sv same =
    let none = ends_nothing t (formed_e t st).many_sessions (backed_e _ t st) in
    subst (Same L (end_unbacked v)) none (ending_alike L v t sv (rw none st) same)
