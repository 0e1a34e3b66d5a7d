-- Equal upper parts, as one equation and in the paper's words.
--     words_of, of_words      from the one to the other
--     upper_iff               they say the same, for tables of the right size
--     sized                   sound tables are of that size
-- Assumes nothing.
use Rattle.std.specs.Prelude.{ℕ, ◌≤◌, ◌≡◌, true, ◌↔◌}
use Rattle.std.proofs.Common.{sym, ap, ◌∙◌}
use native.Mathlib.Omega.{arith}
use Rattle.bitset.specs.Sets.{has, contains, from}
use Rattle.bitset.specs.Sets.Laws.{sets_ext}
use Rattle.bitset.specs.Sets.Shift.{from_ext}
use Rattle.guard.specs.Level.{session_level, role_level}
use Rattle.guard.specs.Tables.{no_session, no_role, no_entity, session_at, role_at, entity_at, rights_of}
use Rattle.guard.specs.Sound.{sound}
use Rattle.isolation.specs.Upper.{first_session, first_role, first_entity, upper_session, upper_role, upper}
use Rattle.guard.specs.declared.Role.{Role}
use Rattle.guard.specs.declared.Tables.{Tables}
use Rattle.guard.proofs.Laws.Rights.{contains_read, contains_write, contains_execute, contains_own}
use Rattle.guard.proofs.Laws.Sound.{formed_e}
use Rattle.isolation.specs.UpperInWords.{Sized, SameUpper}
use Rattle.isolation.proofs.OneRequest.Lists.{seen_ext}
use Rattle.isolation.proofs.OneRequest.Views.{Same, same_of, of_same, live_same, user_same, label_same, holds_same, reading_same, writing_same, live_same_at, listed_same, rights_on_same, junior_same, entity_same}

module _ (L : ℕ) (t u : Tables) where
  words_of : Same L t u → SameUpper L t u
  words_of same =
      record {
        users = same.users;
        seat_live = λ s hs. live_same L t u same s (omega arith);
        seat_user = λ s hs. user_same L t u same s (omega arith);
        seat_label = λ s hs. label_same L t u same s (omega arith);
        held = λ s r hs hr. holds_same L t u same s r (omega arith) (omega arith);
        reading = λ s e hs he. reading_same L t u same s e (omega arith) (omega arith);
        writing = λ s e hs he. writing_same L t u same s e (omega arith) (omega arith);
        role_live = λ r hr. live_same_at L t u same r (omega arith);
        listed = λ r n hr. ap (λ (s : ℕ). has s n) (listed_same L t u same r (omega arith));
        rights = λ r e hr he. rights_on_same L t u same r e (omega arith) (omega arith);
        entity = λ e he. entity_same L t u same e (omega arith);
        tied = λ r j hr hj. junior_same L t u same r j (omega arith) (omega arith);
        edition = same.edition;
      }

  -- ---- and back
  module _ (words : SameUpper L t u) where
    session_alike : (s : ℕ) → first_session L ≤ s → upper_session L (session_at t s) ≡ upper_session L (session_at u s)
    unfolding upper_session
    session_alike s h =
        let up : L ≤ session_level s = omega arith in
        let held = from_ext (first_role L) (session_at t s).roles (session_at u s).roles (λ r hr. words.held s r up (omega arith)) in
        let reading = from_ext (first_entity L) (session_at t s).reading (session_at u s).reading (λ e he. words.reading s e up (omega arith)) in
        let writing = from_ext (first_entity L) (session_at t s).writing (session_at u s).writing (λ e he. words.writing s e up (omega arith)) in
        λ i. record {
          live = words.seat_live s up i;
          user = words.seat_user s up i;
          label = words.seat_label s up i;
          roles = held i;
          reading = reading i;
          writing = writing i;
        }

    -- one of the four sets of a role, by the right that it is read from
    set_alike : (set : Role → ℕ) (right : ℕ) → ((p : Role) (e : ℕ) → contains (rights_of p e) right ≡ has (set p) e)
        → (r : ℕ) → L ≤ role_level r → from (first_entity L) (set (role_at t r)) ≡ from (first_entity L) (set (role_at u r))
    set_alike set right is r up =
        from_ext (first_entity L) _ _
        (λ e he. sym (is (role_at t r) e) ∙ ap (λ (n : ℕ). contains n right) (words.rights r e up (omega arith)) ∙ is (role_at u r) e)

    role_alike : (r : ℕ) → first_role L ≤ r → upper_role L (role_at t r) ≡ upper_role L (role_at u r)
    unfolding upper_role
    role_alike r h =
        let up : L ≤ role_level r = omega arith in
        let listed = sets_ext (role_at t r).users (role_at u r).users (λ n. words.listed r n up) in
        let tied = from_ext (first_role L) (role_at t r).juniors (role_at u r).juniors (λ j hj. words.tied r j up (omega arith)) in
        λ i. record {
          live = words.role_live r up i;
          users = listed i;
          juniors = tied i;
          reads = set_alike (λ p. p.reads) 1 contains_read r up i;
          writes = set_alike (λ p. p.writes) 2 contains_write r up i;
          executes = set_alike (λ p. p.executes) 4 contains_execute r up i;
          owns = set_alike (λ p. p.owns) 8 contains_own r up i;
        }

    entity_alike : (e : ℕ) → first_entity L ≤ e → entity_at t e ≡ entity_at u e
    entity_alike e h = words.entity e (omega arith)

    of_words : Sized t → Sized u → Same L t u
    of_words st su =
        record {
          users = words.users;
          sessions = seen_ext _ _ t.sessions u.sessions no_session (st.sessions ∙ sym su.sessions) session_alike;
          roles = seen_ext _ _ t.roles u.roles no_role (st.roles ∙ sym su.roles) role_alike;
          entities = seen_ext _ _ t.entities u.entities no_entity (st.entities ∙ sym su.entities) entity_alike;
          edition = words.edition;
        }

pub upper_iff : (L : ℕ) (t u : Tables) → Sized t → Sized u → (upper L t ≡ upper L u ↔ SameUpper L t u)
upper_iff L t u st su = (λ e. words_of L t u (same_of L t u e), λ words. of_same L t u (of_words L t u words st su))

pub sized : (t : Tables) → sound t ≡ true → Sized t
sized t h = let ok = formed_e t h in record { sessions = ok.many_sessions; roles = ok.many_roles; entities = ok.many_entities }
