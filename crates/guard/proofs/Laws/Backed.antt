-- What backs the opens, and the end of those that are no longer backed.
--     right_more                     a right by some roles held is one by others, where what gives it is among them
--     ended_backed                   after the end of the opens that are not backed, each is
--     stays, ends_nothing            an open that is backed stays; where all are, nothing ends
--     ended_is                       the sessions after it, by what each is
--     others_right, acting_alone     a change of one session leaves the rights of every other alone, so that no other loses an open
-- Assumes nothing.
use Prim.Native.Nat.{ℕ, ◌<◌}
use mathlib.Core.Path.{◌≡◌, sym, ap, ◌∙◌}
use mathlib.Core.Bool.{Bool, true, and-eq-true_iff}
use mathlib.Core.List.{List}
use lib.ListN.{length, get_or, set, length-set}
use lib.Seq.{get_or-set_same, get_or-set_other}
use native.Mathlib.Decide.{ℕ_discrete}
use native.Mathlib.Omega.{arith}
use Rattle.bitset.specs.Tests.Laws.{every_i, every_at, some_i, some_e}
use Rattle.bitset.specs.Sets.{has, keeping}
use Rattle.bitset.specs.Sets.Keeping.{has_keeping, keeping_all}
use Rattle.guard.specs.Tables.{no_session, session_at, read, write, has_right}
use Rattle.guard.specs.Edits.{with_sessions, at_session}
use Rattle.guard.specs.Backed.{backed, end_unbacked}
use Rattle.guard.specs.declared.Session.{Session}
use Rattle.guard.specs.declared.Role.{Role}
use Rattle.guard.specs.declared.Tables.{Tables}
use Rattle.guard.proofs.Laws.Told.{right_by_lem}
use Rattle.guard.proofs.Laws.Sound.{has_in, right_by, BackedBy, Backed}
use Rattle.guard.proofs.Filling.{get_d_tabulate, tabulate_is}

-- every role that gave the right is held still, or again, and gives it
pub right_more : (old new : List Role) (held held' right e : ℕ)
    → ((r : ℕ) → r < 16 → has held r ≡ true → has_in old right e r ≡ true → (has held' r ≡ true) × (has_in new right e r ≡ true))
    → right_by old held right e ≡ true → right_by new held' right e ≡ true
right_more old new held held' right e gives h =
    let (r, l, met) = some_e 16 _ h in
    let (still, has_it) = gives r l (every_at _ met 1) (every_at _ met 2) in
    some_i 16 _ r l (every_i _ (every_at _ met 0, (still, (has_it, tt))))

-- what is kept meets the test
kept : (p : ℕ → Bool) (s i : ℕ) → i < 64 → has (keeping 64 p s) i ≡ true → p i ≡ true
kept p s i l m = ((and-eq-true_iff (has s i) (p i)).0 (sym (has_keeping p s 64 i l) ∙ m)).1

pub ended_backed : (t : Tables) → Backed (end_unbacked t)
unfolding end_unbacked backed
ended_backed t s l =
    rw (get_d_tabulate (backed t) 16 s no_session l)
    (record {
      reading = λ e k m. sym (right_by_lem t s read e) ∙ kept (has_right t s read) (session_at t s).reading e k m;
      writing = λ e k m. sym (right_by_lem t s write e) ∙ kept (has_right t s write) (session_at t s).writing e k m;
    })

-- a session that has the right on each of its opens keeps them all
pub stays : (t : Tables) (x : ℕ) → BackedBy t.roles (session_at t x) → backed t x ≡ session_at t x
unfolding backed
stays t x ok =
    rw (
      keeping_all (has_right t x read) (session_at t x).reading 64 (λ e l m. right_by_lem t x read e ∙ ok.reading e l m),
      keeping_all (has_right t x write) (session_at t x).writing 64 (λ e l m. right_by_lem t x write e ∙ ok.writing e l m),
    )

-- the sessions after the end, by what is left of each
pub ended_is : (t : Tables) (sessions : List Session) → length sessions ≡ 16 → ((x : ℕ) → x < 16 → backed t x ≡ get_or sessions x no_session)
    → end_unbacked t ≡ with_sessions t sessions
unfolding end_unbacked
ended_is t sessions long same = ap (with_sessions t) (tabulate_is 16 (backed t) sessions no_session long same)

pub ends_nothing : (t : Tables) → length t.sessions ≡ 16 → Backed t → end_unbacked t ≡ t
ends_nothing t long ok = ended_is t t.sessions long (λ x l. stays t x (ok x l))

-- ---- one session changes, as by a drop
module _ (t : Tables) (x : ℕ) (f : Session → Session) where
  other_same : (y : ℕ) → (y ≡ x → ⊥) → session_at (at_session x f t) y ≡ session_at t y
  unfolding at_session
  other_same y ne = get_or-set_other t.sessions x y _ no_session ne

  -- the rights of other sessions are untouched
  pub others_right : (y right e : ℕ) → (y ≡ x → ⊥) → has_right (at_session x f t) y right e ≡ has_right t y right e
  unfolding at_session
  others_right y right e ne =
      right_by_lem (at_session x f t) y right e
      ∙ ap (λ (s : Session). right_by t.roles s.roles right e) (other_same y ne)
      ∙ sym (right_by_lem t y right e)

  -- what each other session is after the end, it was
  other_stays : Backed t → (y : ℕ) → y < 16 → (y ≡ x → ⊥) → backed (at_session x f t) y ≡ session_at t y
  unfolding at_session
  other_stays ok y l ne =
      let same = other_same y ne in
      stays (at_session x f t) y
      (record {
        reading = λ e k m. ap (λ (s : Session). right_by t.roles s.roles read e) same ∙ (ok y l).reading e k (ap (λ (s : Session). has s.reading e) (sym same) ∙ m);
        writing = λ e k m. ap (λ (s : Session). right_by t.roles s.roles write e) same ∙ (ok y l).writing e k (ap (λ (s : Session). has s.writing e) (sym same) ∙ m);
      })
      ∙ same

  pub acting_alone : length t.sessions ≡ 16 → Backed t
      → end_unbacked (at_session x f t) ≡ with_sessions t (set t.sessions x (backed (at_session x f t) x))
  unfolding at_session
  acting_alone long ok =
      ended_is (at_session x f t) (set t.sessions x (backed (at_session x f t) x)) (length-set t.sessions x _ ∙ long) (λ y l. go y l (ℕ_discrete y x))
    where
      go : (y : ℕ) → y < 16 → Dec (y ≡ x) → backed (at_session x f t) y ≡ get_or (set t.sessions x (backed (at_session x f t) x)) y no_session
      go y l (yes same) = rw same (sym (get_or-set_same t.sessions x _ no_session (omega arith)))
      go y l (no ne) = other_stays ok y l ne ∙ sym (get_or-set_other t.sessions x y _ no_session ne)
