-- What the sweep leaves of the sessions is what the end of the opens leaves, where soundness held before: a session that has none of the
-- entities open on which the role lost rights, its own or those of the roles below it, has the right still on each of its opens.
--     kept_is             one role replaced: what `kept_by` leaves of a session
--     unmade_is           .. by an empty one, which nobody holds then
-- Assumes nothing.
use Prim.Native.Nat.{ℕ, ◌<◌}
use mathlib.Core.Path.{◌≡◌, refl, sym, ap, ◌∙◌}
use mathlib.Core.Bool.{Bool, true, false, cond}
use mathlib.Core.List.{List, [], ◌∷◌}
use mathlib.Core.Logic.{◌⊎◌, inl, inr, ⊎_elim}
use native.Mathlib.Decide.{ℕ_discrete}
use native.Mathlib.Omega.{arith}
use lib.Bits.{bit_and}
use lib.Dec.{leb}
use lib.ListN.{length, get_or, set}
use lib.Seq.{get_or-set_same, get_or-set_other}
use borrow.Author.Tests.{eqb-true}
use Rattle.bitset.specs.Tests.{every}
use Rattle.bitset.specs.Tests.Laws.{clash, is_false, not_of_false, of_not_true, of_not_false, either_l, either_r, either_e, every_i, every_at, or_l, or_r, some_i, some_e, some_cong}
use Rattle.bitset.specs.Sets.{has, contains, join, without}
use Rattle.bitset.specs.Sets.Laws.{has_none, has_meet, has_join, has_without_other}
use Rattle.bitset.specs.Sets.Keeping.{keeping_cong}
use Rattle.guard.specs.Level.{role_level, entity_level}
use Rattle.guard.specs.Tables.{no_session, no_role, session_at, role_at, read, write, rights_of, has_right}
use Rattle.guard.specs.Edits.{with_roles, with_sessions, drop_role}
use Rattle.guard.specs.Backed.{backed}
use Rattle.guard.specs.Private.Scan.{given, backed_by, has_with, Lost, concerned, kept_by}
use Rattle.guard.specs.declared.Session.{Session}
use Rattle.guard.specs.declared.Role.{Role}
use Rattle.guard.specs.declared.Tables.{Tables}
use Rattle.guard.specs.declared.scan.Right.{Right}
use Rattle.guard.specs.declared.scan.Right.TheVariants.{Read, Write}
use Rattle.guard.proofs.Laws.Below.{Below, direct, below_trans, itself, by, meets_e, meets_i}
use Rattle.guard.proofs.Laws.Juniors.{Has}
use Rattle.guard.proofs.Laws.Rights.{contains_read, contains_write}
use Rattle.guard.proofs.Laws.Told.{right_by_lem}
use Rattle.guard.proofs.Laws.Sound.{role_in, junior_in, gives_in, has_in, right_by, RoleOk, TiesOk, BackedBy, Backed}
use Rattle.guard.proofs.Laws.Backed.{right_more, stays}
use Rattle.guard.proofs.Given.{number_of, in_set, has_same, backed_by_lem}

-- ---- role r replaced by p
module _ (t : Tables) (r : ℕ) (p : Role) (small : r < 16) (long : length t.roles ≡ 16) (ties : TiesOk t.roles)
    (role : (k : ℕ) → k < 16 → RoleOk t.entities k (role_in (set t.roles r p) k))
    (lost : ℕ) (is_lost : Lost (set t.roles r p) (role_at t r) p lost) where
  abbrev new : List Role
  new = set t.roles r p

  abbrev replaced : Tables
  replaced = with_roles t new

  at_r : role_in new r ≡ p
  at_r = get_or-set_same t.roles r p no_role (omega arith)

  beside : (k : ℕ) → (k ≡ r → ⊥) → role_in new k ≡ role_at t k
  beside k ne = get_or-set_other t.roles r k p no_role ne

  -- what is below r is not r
  apart : (a : ℕ) → Below (junior_in t.roles) r a → a ≡ r → ⊥
  apart a under is = ties.no_cycle r small (rw is at under)

  -- a session that has e open, on which a right was lost, is concerned
  is_concerned : (s : Session) (e : ℕ) → has (join s.reading s.writing) e ≡ true → has lost e ≡ true → concerned lost s ≡ true
  unfolding concerned
  is_concerned s e opened gone = not_of_false _ (is_false _ (λ z. none (eqb-true _ 0 z)))
    where
      none : bit_and (join s.reading s.writing) lost ≡ 0 → ⊥
      none z = clash (has (bit_and (join s.reading s.writing) lost) e) (has_meet (join s.reading s.writing) lost e ∙ rw (opened, gone)) (rw z (has_none e))

  -- of one of the two rights
  module _ (one : Right) (loses : (e : ℕ) → has_with new (role_at t r) one e ≡ true → has_with new p one e ≡ false → has lost e ≡ true) where
    abbrev right : ℕ
    right = number_of one

    -- what is below r is beside it, and has what it had
    below_r : (e a : ℕ) → a < 16 → Below (junior_in t.roles) r a → Has t.roles right e a → Has new right e a
    below_r e a l under (itself g) = itself {a = a} (ap (λ (b : Role). contains (rights_of b e) right) (beside a (apart a under)) ∙ g)
    below_r e a l under (by m b tie f) =
        by {a = a} m b (ap (λ (b : Role). has b.juniors m) (beside a (apart a under)) ∙ tie) (below_r e m b (below_trans _ l under (direct tie)) f)

    -- what r had
    had : (e : ℕ) → Has t.roles right e r → has_with new (role_at t r) one e ≡ true
    unfolding given
    had e (itself g) = either_l _ _ (sym (in_set one (role_at t r) e) ∙ g)
    had e (by m b tie f) =
        either_r _ _ (some_i 16 _ m b (every_i _ (tie, (has_same new one e m b ∙ meets_i _ _ m b (below_r e m b (direct tie) f), tt))))

    -- what r has
    has_now : (e : ℕ) → has_with new p one e ≡ true → Has new right e r
    unfolding given
    has_now e h =
        ⊎_elim (λ g. itself {a = r} (ap (λ (b : Role). contains (rights_of b e) right) at_r ∙ in_set one p e ∙ g))
        (λ h.
        let (m, b, met) = some_e 16 _ h in
        by {a = r} m b (ap (λ (b : Role). has b.juniors m) at_r ∙ every_at _ met 0) (meets_e _ _ m (sym (has_same new one e m b) ∙ every_at _ met 1)))
        (either_e _ _ h)

    -- r has it still, unless it was lost
    r_still : (e : ℕ) → has lost e ≡ false → Has t.roles right e r → Has new right e r
    r_still e kept h =
        has_now e (of_not_false _ (is_false _ (λ gone. clash _ (loses e (had e h) (of_not_true (has_with new p one e) gone)) kept)))

    -- and so has every role
    still : (e : ℕ) → has lost e ≡ false → (a : ℕ) → a < 16 → Has t.roles right e a → Has new right e a
    still e kept a l (itself g) = go (ℕ_discrete a r)
      where
        go : Dec (a ≡ r) → Has new right e a
        go (yes is) = rw is (r_still e kept (rw is at (mine g)))
          where
            mine : gives_in t.roles right e a ≡ true → Has t.roles right e a
            mine = itself
        go (no ne) = itself {a = a} (ap (λ (b : Role). contains (rights_of b e) right) (beside a ne) ∙ g)
    still e kept a l (by m b tie f) = go (ℕ_discrete a r) (still e kept m b f)
      where
        go : Dec (a ≡ r) → Has new right e m → Has new right e a
        go (yes is) rest = rw is (r_still e kept (rw is at (mine tie f)))
          where
            mine : junior_in t.roles a m ≡ true → Has t.roles right e m → Has t.roles right e a
            mine = by m b
        go (no ne) rest = by {a = a} m b (ap (λ (b : Role). has b.juniors m) (beside a ne) ∙ tie) rest

    keeps : (s : Session) (e : ℕ) → concerned lost s ≡ false → has (join s.reading s.writing) e ≡ true
        → right_by t.roles s.roles right e ≡ true → right_by new s.roles right e ≡ true
    keeps s e passed opened =
        right_more t.roles new s.roles s.roles right e (λ a l on h. (on, meets_i _ _ a l (still e kept a l (meets_e _ _ a h))))
      where
        kept : has lost e ≡ false
        kept = is_false _ (λ gone. clash _ (is_concerned s e opened gone) passed)

  backs : (x : ℕ) → BackedBy t.roles (session_at t x) → concerned lost (session_at t x) ≡ false → BackedBy new (session_at t x)
  backs x ok passed =
      let s = session_at t x in
      record {
        reading = λ e l m.
            keeps Read is_lost.reads s e passed
            (has_join s.reading s.writing e ∙ or_l (has s.reading e) (has s.writing e) m) (ok.reading e l m);
        writing = λ e l m.
            keeps Write is_lost.writes s e passed
            (has_join s.reading s.writing e ∙ or_r (has s.reading e) (has s.writing e) m) (ok.writing e l m);
      }

  pub kept_is : Backed t → TiesOk new → (x : ℕ) → x < 16 → backed replaced x ≡ kept_by new lost (session_at t x)
  unfolding kept_by
  kept_is ok tied x l = go (concerned lost (session_at t x)) refl
    where
      go : (b : Bool) → concerned lost (session_at t x) ≡ b → backed replaced x ≡ cond b (backed_by new (session_at t x)) (session_at t x)
      go true m = sym (backed_by_lem replaced role tied x)
      go false m = stays replaced x (backs x (ok x l) m)

-- ---- an empty role gives nothing, so that no right goes with it
gives_nothing : (right e : ℕ) → (right ≡ read) ⊎ (right ≡ write) → contains (rights_of no_role e) right ≡ false
gives_nothing right e (inl is) = rw is (contains_read no_role e ∙ has_none e)
gives_nothing right e (inr is) = rw is (contains_write no_role e ∙ has_none e)

module _ (roles : List Role) (r : ℕ) (empty : role_in roles r ≡ no_role) where
  -- it has no juniors
  has_nothing : (right e : ℕ) → (right ≡ read) ⊎ (right ≡ write) → Has roles right e r → ⊥
  has_nothing right e way (itself g) = clash _ g (rw empty (gives_nothing right e way))
  has_nothing right e way (by m b tie f) = clash _ tie (rw empty (has_none m))

  without_same : (held right e : ℕ) → (right ≡ read) ⊎ (right ≡ write) → right_by roles (without held r) right e ≡ right_by roles held right e
  without_same held right e way = some_cong 16 _ _ (λ k l. go k (ℕ_discrete k r))
    where
      off : (h : ℕ) → every (leb (entity_level e) (role_level r) ∷ has h r ∷ has_in roles right e r ∷ []) ≡ false
      off h = is_false _ (λ met. has_nothing right e way (meets_e _ _ r (every_at _ met 2)))

      go : (k : ℕ) → Dec (k ≡ r) → every (leb (entity_level e) (role_level k) ∷ has (without held r) k ∷ has_in roles right e k ∷ [])
          ≡ every (leb (entity_level e) (role_level k) ∷ has held k ∷ has_in roles right e k ∷ [])
      go k (yes is) = rw is (off (without held r) ∙ sym (off held))
      go k (no ne) = rw (has_without_other held r k ne)

-- the sessions without the role, each with what the end leaves of it
pub unmade_is : (t : Tables) (sessions : List Session) (r : ℕ) → role_at t r ≡ no_role → (x : ℕ) → get_or sessions x no_session ≡ drop_role r (session_at t x)
    → backed (with_sessions t sessions) x ≡ drop_role r (backed t x)
unfolding backed drop_role
unmade_is t sessions r empty x dropped =
    rw (
      dropped,
      keeping_cong _ _ (session_at t x).reading 64 (λ e l. same read e (inl refl)),
      keeping_cong _ _ (session_at t x).writing 64 (λ e l. same write e (inr refl)),
    )
  where
    same : (right e : ℕ) → (right ≡ read) ⊎ (right ≡ write) → has_right (with_sessions t sessions) x right e ≡ has_right t x right e
    same right e way =
        right_by_lem (with_sessions t sessions) x right e
        ∙ ap (λ (s : Session). right_by t.roles s.roles right e) dropped
        ∙ without_same t.roles r empty (session_at t x).roles right e way
        ∙ sym (right_by_lem t x right e)
