-- Tables stay formed where sessions are replaced: login, logout, take, drop, openr, openw, close; and where opens end.
--     Keeps                                   a rule that hands back formed tables where it is done
--     held_ok, open_ok                        a session with other roles held, or other entities open
--     dropped_ok, closed_ok                   .. with one less of them
--     session_kept, each_session_kept         the edits, of one session and of each
--     ended_kept                              .. and the end of the opens that are no longer backed
--     keeps_login .. keeps_close              the rules
-- Assumes nothing.
use Prim.Native.Nat.{ℕ, ◌<◌}
use mathlib.Core.Path.{◌≡◌, refl, ◌∙◌}
use mathlib.Core.Bool.{Bool, true, false}
use mathlib.Core.List.{List, [], ◌∷◌}
use lib.Dec.{leb, ltb}
use lib.ListN.{length, get_or, length-set, length-map}
use native.Mathlib.Omega.{arith}
use borrow.Author.Tests.{ltb-true, ltb-false, le-leb}
use Rattle.bitset.specs.Tests.{every}
use Rattle.bitset.specs.Tests.Laws.{is_false, clash, of_not_false, every_i, every_at, implies_i}
use Rattle.guard.specs.Level.{session_level, entity_level}
use Rattle.guard.specs.Label.{label_in_range_in, same_label, no_label}
use Rattle.guard.specs.Tables.{no_session, session_at}
use Rattle.guard.specs.Edits.{with_sessions, at_session, each_session, holding, opening, take_role, drop_role, open_reading, open_writing, close_both}
use Rattle.guard.specs.Backed.{backed, end_unbacked}
use Rattle.guard.specs.Conditions.{label_asked}
use Rattle.guard.specs.Requests.{Rule, field_in_range_in, logged_in, login, logout, take, drop, openr, openw, close}
use Rattle.guard.specs.declared.Label.{Label}
use Rattle.guard.specs.declared.Session.{Session}
use Rattle.guard.specs.declared.Role.{Role}
use Rattle.guard.specs.declared.Entity.{Entity}
use Rattle.guard.specs.declared.Tables.{Tables}
use Rattle.guard.specs.declared.Request.{Request}
use Rattle.guard.proofs.Laws.Label.{none_in_range}
use Rattle.guard.proofs.Laws.Refusals.{unmet}
use Rattle.guard.proofs.Laws.Step.{DoneIn}
use Rattle.guard.proofs.Filling.{length_tabulate}
use Rattle.guard.proofs.Laws.Sound.{role_in, entity_in, readable, writable, SetOk, SessionOk, Formed, formed_e}
use Rattle.guard.proofs.Kept.EachStays.{set_each, map_each, tabulate_each, none_ok, with_ok, without_ok, keeping_ok}

abbrev pub Keeps : ℕ → Rule → Type 0
Keeps width rule = (t : Tables) (q : Request) → DoneIn width rule t q → Formed width (rule.effect q t)

-- ---- one session, over the roles and entities of the tables
module _ {width edition : ℕ} (roles : List Role) (es : List Entity) (s : ℕ) (r : Session) (ok : SessionOk width edition roles es s r) where
  held_ok : (held : ℕ) → SetOk 16 r.live (λ p. (role_in roles p).live) held → SessionOk width edition roles es s (holding held r)
  held_ok held new =
      record { user = ok.user; label = ok.label; empty = ok.empty; held = new; reading = ok.reading; writing = ok.writing }

  open_ok : (reading writing : ℕ) → SetOk 64 r.live (λ e. readable edition s r.label e (entity_in es e)) reading
      → SetOk 64 r.live (λ e. writable s r.label e (entity_in es e)) writing → SessionOk width edition roles es s (opening reading writing r)
  open_ok reading writing new new' =
      record { user = ok.user; label = ok.label; empty = ok.empty; held = ok.held; reading = new; writing = new' }

  pub dropped_ok : (p : ℕ) → SessionOk width edition roles es s (drop_role p r)
  unfolding drop_role
  dropped_ok p = held_ok _ (without_ok _ _ _ _ p ok.held)

  pub closed_ok : (e : ℕ) → SessionOk width edition roles es s (close_both e r)
  unfolding close_both
  closed_ok e = open_ok _ _ (without_ok _ _ _ _ e ok.reading) (without_ok _ _ _ _ e ok.writing)

-- with nothing held or open
nothing_ok : {width edition : ℕ} (roles : List Role) (es : List Entity) (s : ℕ) (live : Bool) (user : ℕ) (label : Label) → user < 16
    → label_in_range_in width label ≡ true → (live ≡ false → (user ≡ 0) × (same_label label no_label ≡ true))
    → SessionOk width edition roles es s (record { live = live; user = user; label = label; roles = 0; reading = 0; writing = 0 })
nothing_ok roles es s live user label small range empty =
    record { user = small; label = range; empty = empty; held = none_ok _ _ _; reading = none_ok _ _ _; writing = none_ok _ _ _ }

-- ---- the sessions replaced
sessions_kept : {width : ℕ} (t : Tables) (sessions : List Session) → Formed width t → length sessions ≡ 16
    → ((s : ℕ) → s < 16 → SessionOk width t.edition t.roles t.entities s (get_or sessions s no_session)) → Formed width (with_sessions t sessions)
sessions_kept t sessions ok many new =
    record {
      edition = ok.edition;
      users = ok.users;
      many_sessions = many;
      many_roles = ok.many_roles;
      many_entities = ok.many_entities;
      session = new;
      role = ok.role;
      ties = ok.ties;
      entity = ok.entity;
    }

pub session_kept : {width : ℕ} (t : Tables) (x : ℕ) (f : Session → Session) → Formed width t
    → (x < 16 → SessionOk width t.edition t.roles t.entities x (session_at t x) → SessionOk width t.edition t.roles t.entities x (f (session_at t x)))
    → Formed width (at_session x f t)
unfolding at_session
session_kept {width} t x f ok new =
    sessions_kept t _ ok (length-set t.sessions x _ ∙ ok.many_sessions)
    (set_each (SessionOk width t.edition t.roles t.entities) 16 t.sessions no_session ok.many_sessions x _
    (λ s l ne. ok.session s l) (λ l. new l (ok.session x l)))

pub each_session_kept : {width : ℕ} (t : Tables) (f : Session → Session) → Formed width t
    → ((s : ℕ) (r : Session) → SessionOk width t.edition t.roles t.entities s r → SessionOk width t.edition t.roles t.entities s (f r))
    → Formed width (each_session f t)
unfolding each_session
each_session_kept {width} t f ok new =
    sessions_kept t _ ok (length-map t.sessions f ∙ ok.many_sessions)
    (map_each (SessionOk width t.edition t.roles t.entities) f 16 t.sessions no_session ok.many_sessions (λ s l. new s _ (ok.session s l)))

pub ended_kept : {width : ℕ} (t : Tables) → Formed width t → Formed width (end_unbacked t)
unfolding end_unbacked backed
ended_kept {width} t ok =
    sessions_kept t _ ok (length_tabulate _ 16)
    (tabulate_each (SessionOk width t.edition t.roles t.entities) 16 _ no_session (λ s l.
    let old = ok.session s l in
    open_ok _ _ _ _ old _ _ (keeping_ok _ _ _ _ _ old.reading) (keeping_ok _ _ _ _ _ old.writing)))

-- ---- the rules
pub not_below : (a b : ℕ) → ltb a b ≡ false → leb b a ≡ true
not_below a b h = le-leb b a (ltb-false a b h)

-- of two conditions that are not both met, the second is not where the first is
every_no : (a b : Bool) → a ≡ true → every (a ∷ b ∷ []) ≡ false → b ≡ false
every_no a b h k = is_false b (λ m. clash _ (every_i _ (h, (m, tt))) k)

pub keeps_login : {width : ℕ} → Keeps width login
unfolding login logged_in field_in_range_in
keeps_login t q d =
    session_kept t q.seat _ (formed_e t d.is_sound)
    (λ l old. nothing_ok _ _ _ true q.user (label_asked q) (ltb-true _ _ (every_at _ d.ranges 1)) (every_at _ d.ranges 2) (λ dead. absurd (clash true refl dead)))

pub keeps_logout : {width : ℕ} → Keeps width logout
unfolding logout same_label every
keeps_logout t q d =
    session_kept t q.seat _ (formed_e t d.is_sound) (λ l old. nothing_ok _ _ _ false 0 no_label (omega arith) (none_in_range _) (λ dead. (refl, refl)))

pub keeps_take : {width : ℕ} → Keeps width take
unfolding take take_role field_in_range_in
keeps_take t q d =
    let no = unmet _ refl d.none in
    session_kept t q.seat _ (formed_e t d.is_sound) (λ l old.
    held_ok _ _ _ _ old _
    (with_ok _ _ _ _ q.role old.held (of_not_false _ (no 5)) (ltb-true _ _ (every_at _ d.ranges 1)) (of_not_false _ (no 7))))

pub keeps_drop : {width : ℕ} → Keeps width drop
unfolding drop
keeps_drop t q d = ended_kept _ (session_kept t q.seat _ (formed_e t d.is_sound) (λ l old. dropped_ok _ _ _ _ old q.role))

pub keeps_openr : {width : ℕ} → Keeps width openr
unfolding openr open_reading field_in_range_in
keeps_openr t q d =
    let no = unmet _ refl d.none in
    let level = implies_i _ _ (λ first. not_below (entity_level q.entity) (session_level q.seat) (every_no _ _ first (no 10))) in
    session_kept t q.seat _ (formed_e t d.is_sound) (λ l old.
    open_ok _ _ _ _ old _ _
    (with_ok _ _ _ _ q.entity old.reading (of_not_false _ (no 5)) (ltb-true _ _ (every_at _ d.ranges 1))
    (every_i _ (of_not_false _ (no 7), (level, (of_not_false _ (no 11), tt)))))
    old.writing)

pub keeps_openw : {width : ℕ} → Keeps width openw
unfolding openw open_writing field_in_range_in
keeps_openw t q d =
    let no = unmet _ refl d.none in
    let level = not_below (session_level q.seat) (entity_level q.entity) (no 10) in
    session_kept t q.seat _ (formed_e t d.is_sound) (λ l old.
    open_ok _ _ _ _ old _ _
    old.reading
    (with_ok _ _ _ _ q.entity old.writing (of_not_false _ (no 5)) (ltb-true _ _ (every_at _ d.ranges 1))
    (every_i _ (of_not_false _ (no 7), (level, (of_not_false _ (no 11), tt))))))

pub keeps_close : {width : ℕ} → Keeps width close
unfolding close
keeps_close t q d = session_kept t q.seat _ (formed_e t d.is_sound) (λ l old. closed_ok _ _ _ _ old q.entity)
