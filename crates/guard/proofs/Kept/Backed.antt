-- Every open keeps the right behind it, for every request: where roles or rights come, none is lost; where they go, opens go that
-- are not backed any more; and where an entity goes, its opens go too.
--     KeepsBacked                           a rule after which each open is backed
--     session_backed, more_backed           one session replaced; roles replaced that give no less
--     backs_login .. backs_unjoin           the rules
-- Assumes nothing.
use Prim.Native.Nat.{ℕ, ◌<◌}
use mathlib.Core.Path.{◌≡◌, refl, sym, ◌∙◌}
use mathlib.Core.Bool.{true}
use mathlib.Core.List.{List, map}
use native.Mathlib.Decide.{ℕ_discrete}
use lib.ListN.{length, set}
use Rattle.bitset.specs.Tests.Laws.{clash, of_not_false, either_no_l, or_l}
use Rattle.bitset.specs.Sets.{has, contains, join, with}
use Rattle.bitset.specs.Sets.Laws.{has_none, has_join, has_with_other, has_with_old, has_without, contains_has, has_contains}
use Rattle.guard.specs.Tables.{no_session, no_role, session_at, role_at, read, write, rights_of, has_right}
use Rattle.guard.specs.Edits.{at_session, at_role, at_entity, each_session, each_role, take_role, open_reading, open_writing, close_both, put_in, set_rights, add_rights, clear_rights, list_user, unlist_user, tie_junior}
use Rattle.guard.specs.Conditions.{cannot_open}
use Rattle.guard.specs.Requests.{Rule, logged_in, login, logout, take, drop, openr, openw, close, create, delete, rename, grant, revoke, list, unlist, make, unmake, share, join as joining, unjoin}
use Rattle.guard.specs.declared.Session.{Session}
use Rattle.guard.specs.declared.Role.{Role}
use Rattle.guard.specs.declared.Tables.{Tables}
use Rattle.guard.specs.declared.Request.{Request}
use Rattle.guard.proofs.Laws.Refusals.{unmet}
use Rattle.guard.proofs.Laws.Rights.{contains_read, contains_write, has_put_same, has_put_other, rights_other}
use Rattle.guard.proofs.Laws.Juniors.{has_more}
use Rattle.guard.proofs.Laws.Told.{right_by_lem}
use Rattle.guard.proofs.Laws.Step.{DoneIn}
use Rattle.guard.proofs.Laws.Sound.{role_in, junior_in, gives_in, has_in, right_by, BackedBy, Backed, Formed, formed_e, backed_e}
use Rattle.guard.proofs.Laws.Backed.{right_more, ended_backed}
use Rattle.guard.proofs.Kept.EachStays.{set_each, map_each}

abbrev pub KeepsBacked : ℕ → Rule → Type 0
KeepsBacked width rule = (t : Tables) (q : Request) → DoneIn width rule t q → Backed (rule.effect q t)

-- ---- one session replaced
session_backed : {width : ℕ} (t : Tables) (x : ℕ) (f : Session → Session) → Formed width t → Backed t
    → (x < 16 → BackedBy t.roles (session_at t x) → BackedBy t.roles (f (session_at t x))) → Backed (at_session x f t)
unfolding at_session
session_backed t x f ok backs new =
    set_each (λ s r. BackedBy t.roles r) 16 t.sessions no_session ok.many_sessions x _ (λ s l ne. backs s l) (λ l. new l (backs x l))

-- with nothing open
nothing_backed : (roles : List Role) (s : Session) → s.reading ≡ 0 → s.writing ≡ 0 → BackedBy roles s
nothing_backed roles s r w =
    record {
      reading = λ e l m. absurd (clash _ (rw r at m) (has_none e));
      writing = λ e l m. absurd (clash _ (rw w at m) (has_none e));
    }

pub backs_login : {width : ℕ} → KeepsBacked width login
unfolding login logged_in
backs_login t q d = session_backed t q.seat _ (formed_e t d.is_sound) (backed_e _ t d.is_sound) (λ l old. nothing_backed _ _ refl refl)

pub backs_logout : {width : ℕ} → KeepsBacked width logout
unfolding logout
backs_logout t q d = session_backed t q.seat _ (formed_e t d.is_sound) (backed_e _ t d.is_sound) (λ l old. nothing_backed _ _ refl refl)

-- with a role more
pub backs_take : {width : ℕ} → KeepsBacked width take
unfolding take take_role
backs_take t q d =
    session_backed t q.seat _ (formed_e t d.is_sound) (backed_e _ t d.is_sound) (λ l old.
    record { reading = λ e k m. more (session_at t q.seat).roles read e (old.reading e k m); writing = λ e k m. more (session_at t q.seat).roles write e (old.writing e k m) })
  where
    more : (held right e : ℕ) → right_by t.roles held right e ≡ true → right_by t.roles (with held q.role) right e ≡ true
    more held right e = right_more t.roles t.roles held (with held q.role) right e (λ r k on gives. (has_with_old held q.role r on, gives))

pub backs_drop : {width : ℕ} → KeepsBacked width drop
unfolding drop
backs_drop t q d = ended_backed _

-- with an entity more, on which it has the right
opened_backed : (t : Tables) (x right set e : ℕ) → ((i : ℕ) → i < 64 → has set i ≡ true → right_by t.roles (session_at t x).roles right i ≡ true)
    → has_right t x right e ≡ true → (i : ℕ) → i < 64 → has (with set e) i ≡ true → right_by t.roles (session_at t x).roles right i ≡ true
opened_backed t x right set e old new i l m = go (ℕ_discrete i e)
  where
    go : Dec (i ≡ e) → right_by t.roles (session_at t x).roles right i ≡ true
    go (yes same) = rw same (sym (right_by_lem t x right e) ∙ new)
    go (no ne) = old i l (sym (has_with_other set e i ne) ∙ m)

pub backs_openr : {width : ℕ} → KeepsBacked width openr
unfolding openr open_reading cannot_open
backs_openr t q d =
    let right = of_not_false _ (either_no_l _ _ (unmet _ refl d.none 13)) in
    session_backed t q.seat _ (formed_e t d.is_sound) (backed_e _ t d.is_sound) (λ l old.
    record { reading = opened_backed t q.seat read _ q.entity old.reading right; writing = old.writing })

pub backs_openw : {width : ℕ} → KeepsBacked width openw
unfolding openw open_writing cannot_open
backs_openw t q d =
    let right = of_not_false _ (either_no_l _ _ (unmet _ refl d.none 13)) in
    session_backed t q.seat _ (formed_e t d.is_sound) (backed_e _ t d.is_sound) (λ l old.
    record { reading = old.reading; writing = opened_backed t q.seat write _ q.entity old.writing right })

pub backs_close : {width : ℕ} → KeepsBacked width close
unfolding close close_both
backs_close t q d =
    session_backed t q.seat _ (formed_e t d.is_sound) (backed_e _ t d.is_sound) (λ l old.
    record {
      reading = λ e k m. old.reading e k (has_without _ q.entity e m).0;
      writing = λ e k m. old.writing e k (has_without _ q.entity e m).0;
    })

-- ---- a role that gives no less
record NoLess (old new : Role) : Type 0 where
  juniors : (j : ℕ) → has old.juniors j ≡ true → has new.juniors j ≡ true
  reads : (e : ℕ) → has old.reads e ≡ true → has new.reads e ≡ true
  writes : (e : ℕ) → has old.writes e ≡ true → has new.writes e ≡ true

no_less : (p : Role) → NoLess p p
no_less p = record { juniors = λ j m. m; reads = λ e m. m; writes = λ e m. m }

more_backed : (t : Tables) (r : ℕ) (f : Role → Role) → length t.roles ≡ 16 → Backed t → (r < 16 → NoLess (role_at t r) (f (role_at t r)))
    → Backed (at_role r f t)
unfolding at_role
more_backed t r f long backs more s l =
    let held = (session_at t s).roles in
    record {
      reading = λ e k m.
          right_more t.roles new held held read e
          (λ p b on gives. (on, has_more t.roles new read e ties (λ r c g. contains_read (role_in new r) e ∙ (each r c).reads e (sym (contains_read (role_at t r) e) ∙ g)) p b gives))
          ((backs s l).reading e k m);
      writing = λ e k m.
          right_more t.roles new held held write e
          (λ p b on gives. (on, has_more t.roles new write e ties (λ r c g. contains_write (role_in new r) e ∙ (each r c).writes e (sym (contains_write (role_at t r) e) ∙ g)) p b gives))
          ((backs s l).writing e k m);
    }
  where
    new : List Role
    new = set t.roles r (f (role_at t r))

    each : (p : ℕ) → p < 16 → NoLess (role_at t p) (role_in new p)
    each = set_each (λ p a. NoLess (role_at t p) a) 16 t.roles no_role long r _ (λ p k ne. no_less _) more

    ties : (r j : ℕ) → r < 16 → j < 16 → junior_in t.roles r j ≡ true → junior_in new r j ≡ true
    ties r j l k = (each r l).juniors j

-- rights joined to those that it has
join_keeps : (a b m : ℕ) → contains a m ≡ true → contains (join a b) m ≡ true
join_keeps a b m h = has_contains (join a b) m (λ i on. has_join a b i ∙ or_l (has a i) (has b i) (contains_has a m h i on))

added : (e n m s : ℕ) (p : Role) → contains (rights_of p e) m ≡ has s e → (i : ℕ) → has s i ≡ true
    → has (put_in (contains (join (rights_of p e) n) m) e s) i ≡ true
added e n m s p same i h = go (ℕ_discrete i e)
  where
    go : Dec (i ≡ e) → has (put_in (contains (join (rights_of p e) n) m) e s) i ≡ true
    go (yes it) = rw it (has_put_same _ e s ∙ join_keeps (rights_of p e) n m (same ∙ (rw it at h)))
    go (no ne) = has_put_other _ e s i ne ∙ h

no_less_added : (e n : ℕ) (p : Role) → NoLess p (add_rights e n p)
unfolding add_rights set_rights
no_less_added e n p = record { juniors = λ j m. m; reads = added e n 1 _ p (contains_read p e); writes = added e n 2 _ p (contains_write p e) }

pub backs_create : {width : ℕ} → KeepsBacked width create
unfolding create at_entity
backs_create t q d =
    more_backed _ q.role _ (formed_e t d.is_sound).many_roles (backed_e _ t d.is_sound) (λ l. no_less_added q.entity _ _)

pub backs_grant : {width : ℕ} → KeepsBacked width grant
unfolding grant
backs_grant t q d = more_backed t q.role _ (formed_e t d.is_sound).many_roles (backed_e _ t d.is_sound) (λ l. no_less_added q.entity _ _)

pub backs_revoke : {width : ℕ} → KeepsBacked width revoke
unfolding revoke
backs_revoke t q d = ended_backed _

pub backs_list : {width : ℕ} → KeepsBacked width list
unfolding list list_user
backs_list t q d = more_backed t q.role _ (formed_e t d.is_sound).many_roles (backed_e _ t d.is_sound) (λ l. record { juniors = λ j m. m; reads = λ e m. m; writes = λ e m. m })

pub backs_unlist : {width : ℕ} → KeepsBacked width unlist
unfolding unlist unlist_user
backs_unlist t q d = more_backed t q.role _ (formed_e t d.is_sound).many_roles (backed_e _ t d.is_sound) (λ l. record { juniors = λ j m. m; reads = λ e m. m; writes = λ e m. m })

-- a role that was dead gave nothing
pub backs_make : {width : ℕ} → KeepsBacked width make
unfolding make
backs_make t q d =
    let ok = formed_e t d.is_sound in
    let dead = unmet _ refl d.none 8 in
    more_backed t q.role _ ok.many_roles (backed_e _ t d.is_sound) (λ l.
    let old = ok.role q.role l in
    record {
      juniors = λ j m. absurd (clash _ (rw (old.juniors.none dead) at m) (has_none j));
      reads = λ e m. absurd (clash _ (rw (old.reads.none dead) at m) (has_none e));
      writes = λ e m. absurd (clash _ (rw (old.writes.none dead) at m) (has_none e));
    })

pub backs_unmake : {width : ℕ} → KeepsBacked width unmake
unfolding unmake
backs_unmake t q d = ended_backed _

-- ---- a tie comes, or goes
pub backs_join : {width : ℕ} → KeepsBacked width joining
unfolding joining tie_junior
backs_join t q d =
    more_backed t q.role _ (formed_e t d.is_sound).many_roles (backed_e _ t d.is_sound) (λ l.
    record { juniors = has_with_old (role_at t q.role).juniors q.junior; reads = λ e m. m; writes = λ e m. m })

pub backs_unjoin : {width : ℕ} → KeepsBacked width unjoin
unfolding unjoin
backs_unjoin t q d = ended_backed _

-- ---- an entity goes, with the opens of it and the rights on it; what is open beside it keeps its rights
pub backs_delete : {width : ℕ} → KeepsBacked width delete
unfolding delete at_entity each_role each_session close_both clear_rights set_rights
backs_delete t q d =
    let ok = formed_e t d.is_sound in
    let backs = backed_e _ t d.is_sound in
    map_each (λ s r. BackedBy (map (clear_rights q.entity) t.roles) r) (close_both q.entity) 16 t.sessions no_session ok.many_sessions (λ s l.
    let held = (session_at t s).roles in
    record {
      reading = λ e k m. let (on, ne) = has_without _ q.entity e m in right_more t.roles cleared held held read e (still held e ne read) ((backs s l).reading e k on);
      writing = λ e k m. let (on, ne) = has_without _ q.entity e m in right_more t.roles cleared held held write e (still held e ne write) ((backs s l).writing e k on);
    })
  where
    cleared : List Role
    cleared = map (clear_rights q.entity) t.roles

    same_ties : (r j : ℕ) → r < 16 → j < 16 → junior_in t.roles r j ≡ true → junior_in cleared r j ≡ true
    same_ties r j l k =
        map_each (λ r a. junior_in t.roles r j ≡ true → has a.juniors j ≡ true) (clear_rights q.entity) 16 t.roles no_role
        (formed_e t d.is_sound).many_roles (λ r b h. h) r l

    still : (held e : ℕ) → (e ≡ q.entity → ⊥) → (right p : ℕ) → p < 16 → has held p ≡ true → has_in t.roles right e p ≡ true
        → (has held p ≡ true) × (has_in cleared right e p ≡ true)
    still held e ne right p l on gives = (
      on,
      has_more t.roles cleared right e same_ties
          (map_each (λ r a. gives_in t.roles right e r ≡ true → contains (rights_of a e) right ≡ true) (clear_rights q.entity) 16 t.roles no_role
          (formed_e t d.is_sound).many_roles (λ r k h. rw (rights_other q.entity 0 (role_at t r) e ne) h)) p l gives,
    )

-- ---- an entity changes
pub backs_rename : {width : ℕ} → KeepsBacked width rename
unfolding rename at_entity
backs_rename t q d = backed_e _ t d.is_sound

pub backs_share : {width : ℕ} → KeepsBacked width share
unfolding share at_entity
backs_share t q d = backed_e _ t d.is_sound
