-- The edits of which every effect is made, and the upper part for L: an edit of a lower number, or of what is hidden,
-- leaves it alone; an edit of an upper number takes equal upper parts to equal ones.
--     Table, session_table, role_table, entity_table        the three tables, for which each law is said once
--     put_below, put_above                               one member of a set: lower, or upper
--     row_low, row_hidden, row_alike                     one record changed: lower, not seen, or upper
--     rows_hidden, rows_alike                            each record changed
--     taking .. untying_image                            the small functions by which records change
-- Assumes nothing.
use Rattle.std.specs.Prelude.{ℕ, ◌-◌, ◌≤◌, ◌<◌, ◌≡◌, refl, Bool, true, false, List, map, get_or, set}
use Rattle.std.proofs.Common.{subst, ◌∙◌}
use Rattle.bitset.specs.Sets.{from}
use Rattle.bitset.specs.Sets.Shift.{with_below, with_above, without_below, without_above}
use Rattle.guard.specs.Tables.{no_session, no_role, no_entity}
use Rattle.guard.specs.Edits.{with_sessions, with_roles, with_entities, take_role, drop_role, open_reading, open_writing, close_both, put_in, set_rights, list_user, unlist_user, tie_junior, untie_junior}
use Rattle.isolation.specs.Upper.{first_session, first_role, first_entity, upper_session, upper_role}
use Rattle.guard.specs.declared.Session.{Session}
use Rattle.guard.specs.declared.Role.{Role}
use Rattle.guard.specs.declared.Entity.{Entity}
use Rattle.guard.specs.declared.Tables.{Tables}
use Rattle.isolation.proofs.OneRequest.Lists.{seen, Hidden, Image, Seen, seen_at, set_hidden, set_same, set_alike, each_hidden, each_alike, image_alike}
use Rattle.isolation.proofs.OneRequest.Views.{Same, upper_rights}

-- ---- one of the three tables of records: what is seen of a record, from which number on, and how a list is replaced
pub record Table (L : ℕ) (A : Type 0) : Type 1 where
  pub looks : A → A
  pub first : ℕ
  pub absent : A
  pub rows : Tables → List A
  pub store : Tables → List A → Tables
  pub at : (t : Tables) → store t (rows t) ≡ t
  pub old : (t u : Tables) → Same L t u → seen looks first (rows t) ≡ seen looks first (rows u)
  pub new : (t u : Tables) (l m : List A) → Same L t u → seen looks first l ≡ seen looks first m → Same L (store t l) (store u m)

abbrev pub session_table : (L : ℕ) → Table L Session
session_table L =
    record {
      looks = upper_session L;
      first = first_session L;
      absent = no_session;
      rows = λ t. t.sessions;
      store = with_sessions;
      at = λ t. refl;
      old = λ t u s. s.sessions;
      new = λ t u l m s e. record { users = s.users; sessions = e; roles = s.roles; entities = s.entities; edition = s.edition };
    }

abbrev pub role_table : (L : ℕ) → Table L Role
role_table L =
    record {
      looks = upper_role L;
      first = first_role L;
      absent = no_role;
      rows = λ t. t.roles;
      store = with_roles;
      at = λ t. refl;
      old = λ t u s. s.roles;
      new = λ t u l m s e. record { users = s.users; sessions = s.sessions; roles = e; entities = s.entities; edition = s.edition };
    }

abbrev pub entity_table : (L : ℕ) → Table L Entity
entity_table L =
    record {
      looks = λ e. e;
      first = first_entity L;
      absent = no_entity;
      rows = λ t. t.entities;
      store = with_entities;
      at = λ t. refl;
      old = λ t u s. s.entities;
      new = λ t u l m s e. record { users = s.users; sessions = s.sessions; roles = s.roles; entities = e; edition = s.edition };
    }

-- ---- a member put into a set, or out of it: below k it is not seen, from k on it moves down by k
put_below : (inside : Bool) (k s e : ℕ) → e < k → from k (put_in inside e s) ≡ from k s
unfolding put_in
put_below true = with_below
put_below false = without_below

put_above : (inside : Bool) (k s e : ℕ) → k ≤ e → from k (put_in inside e s) ≡ put_in inside (e - k) (from k s)
unfolding put_in
put_above true = with_above
put_above false = without_above

module _ (L : ℕ) where
  pub same_refl : (t : Tables) → Same L t t
  same_refl t = record { users = refl; sessions = refl; roles = refl; entities = refl; edition = refl }

  pub same_trans : (t u v : Tables) → Same L t u → Same L u v → Same L t v
  same_trans t u v a b =
      record {
        users = a.users ∙ b.users;
        sessions = a.sessions ∙ b.sessions;
        roles = a.roles ∙ b.roles;
        entities = a.entities ∙ b.entities;
        edition = a.edition ∙ b.edition;
      }

  module _ {A : Type 0} (T : Table L A) (f : A → A) where
    -- the tables with f at one record, or at each
    abbrev pub at_row : ℕ → Tables → Tables
    at_row i t = T.store t (set (T.rows t) i (f (get_or (T.rows t) i T.absent)))

    abbrev pub at_each : Tables → Tables
    at_each t = T.store t (map f (T.rows t))

    kept : (t : Tables) (l : List A) → seen T.looks T.first l ≡ seen T.looks T.first (T.rows t) → Same L (T.store t l) t
    kept t l e = subst (Same L (T.store t l)) (T.at t) (T.new t t l (T.rows t) (same_refl t) e)

    pub row_low : (i : ℕ) (t : Tables) → i < T.first → Same L (at_row i t) t
    row_low i t h = kept t _ (set_hidden T.looks T.first (T.rows t) i _ h)

    pub row_hidden : (i : ℕ) (t : Tables) → Hidden T.looks f → Same L (at_row i t) t
    row_hidden i t h = kept t _ (set_same T.looks T.first (T.rows t) i _ T.absent (h (get_or (T.rows t) i T.absent)))

    pub rows_hidden : (t : Tables) → Hidden T.looks f → Same L (at_each t) t
    rows_hidden t h = kept t _ (each_hidden T.looks T.first f h (T.rows t))

    pub row_alike : (i : ℕ) (t u : Tables) → T.first ≤ i → Image T.looks f → Same L t u → Same L (at_row i t) (at_row i u)
    row_alike i t u h image s =
        T.new t u _ _ s
        (set_alike T.looks T.first (T.rows t) (T.rows u) i _ _ h (T.old t u s)
        (image_alike T.looks T.first f image _ _ (seen_at T.looks T.first (T.rows t) (T.rows u) T.absent (T.old t u s) i h)))

    pub rows_alike : (t u : Tables) → Image T.looks f → Same L t u → Same L (at_each t) (at_each u)
    rows_alike t u image s = T.new t u _ _ s (each_alike T.looks T.first f image (T.rows t) (T.rows u) (T.old t u s))

  -- ---- the small functions on a session
  pub taking : (r : ℕ) → Seen (first_role L) r (upper_session L) (take_role r)
  unfolding take_role upper_session
  taking r =
      (λ h s. rw (with_below (first_role L) s.roles r h), λ h. (take_role (r - first_role L), λ s. rw (with_above (first_role L) s.roles r h)))

  pub dropping : (r : ℕ) → Seen (first_role L) r (upper_session L) (drop_role r)
  unfolding drop_role upper_session
  dropping r =
      (λ h s. rw (without_below (first_role L) s.roles r h), λ h. (drop_role (r - first_role L), λ s. rw (without_above (first_role L) s.roles r h)))

  pub opening_r : (e : ℕ) → Seen (first_entity L) e (upper_session L) (open_reading e)
  unfolding open_reading upper_session
  opening_r e =
      (λ h s. rw (with_below (first_entity L) s.reading e h), λ h. (open_reading (e - first_entity L), λ s. rw (with_above (first_entity L) s.reading e h)))

  pub opening_w : (e : ℕ) → Seen (first_entity L) e (upper_session L) (open_writing e)
  unfolding open_writing upper_session
  opening_w e =
      (λ h s. rw (with_below (first_entity L) s.writing e h), λ h. (open_writing (e - first_entity L), λ s. rw (with_above (first_entity L) s.writing e h)))

  pub closing : (e : ℕ) → Seen (first_entity L) e (upper_session L) (close_both e)
  unfolding close_both upper_session
  closing e = (
    λ h s. rw (without_below (first_entity L) s.reading e h, without_below (first_entity L) s.writing e h),
    λ h. (close_both (e - first_entity L), λ s. rw (without_above (first_entity L) s.reading e h, without_above (first_entity L) s.writing e h)),
  )

  -- ---- the small functions on a role
  pub setting : (e : ℕ) (f : ℕ → ℕ) → Seen (first_entity L) e (upper_role L) (set_rights e f)
  unfolding set_rights upper_role
  setting e f = (λ h r. simp put_below, λ h. (set_rights (e - first_entity L) f, λ r. rw (upper_rights L r e h) (simp put_above)))

  pub listing_image : (u : ℕ) → Image (upper_role L) (list_user u)
  unfolding list_user upper_role
  listing_image u = (list_user u, λ r. refl)

  pub unlisting_image : (u : ℕ) → Image (upper_role L) (unlist_user u)
  unfolding unlist_user upper_role
  unlisting_image u = (unlist_user u, λ r. refl)

  -- a tie of an upper role is to an upper one
  pub tying_image : (j : ℕ) → first_role L ≤ j → Image (upper_role L) (tie_junior j)
  unfolding tie_junior upper_role
  tying_image j h = (tie_junior (j - first_role L), λ r. rw (with_above (first_role L) r.juniors j h))

  pub untying_image : (j : ℕ) → first_role L ≤ j → Image (upper_role L) (untie_junior j)
  unfolding untie_junior upper_role
  untying_image j h = (untie_junior (j - first_role L), λ r. rw (without_above (first_role L) r.juniors j h))
