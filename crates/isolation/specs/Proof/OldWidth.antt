-- Tables whose sets of categories are within two widths are sound in both or in neither; and on tables that are sound in the old
-- width, a log whose category numbers are within it gets the same answers and leaves the same tables there and in force.
--     fits_sound, sound_fits        sound tables, and the sets of categories in them
--     same_sound                    sound in the old width or in force
--     same_ranges, same_answer, same_next      one request
--     same_log                      a log
--     given_back, old_ones           tables without marks and ties, of edition 1, as old ones, every number the same
-- Assumes nothing.
use Rattle.std.specs.Prelude.{Option}
use Rattle.std.specs.Prelude.{ℕ, suc, ◌≤◌, ◌<◌, ◌≡◌, refl, true, ◌&&◌, List, [], ◌∷◌, map, length, get_or}
use Rattle.std.proofs.Common.{sym, ap, ap₂, arith, leb-true, le-leb}
use Rattle.bitset.specs.Tests.{every}
use Rattle.bitset.specs.Tests.Laws.{both, every_i, every_e, every_at, all_i, all_e}
use Rattle.guard.specs.Label.{all_categories, old_width, label_in_range_in}
use Rattle.guard.specs.Level.{role_count, entity_count}
use Rattle.guard.specs.Tables.{no_user, no_session, no_role, no_entity, session_at, entity_at}
use Rattle.guard.specs.Sound.{user_in_range_in, entity_in_range_in, users_in_range_in, sound_in, sound}
use Rattle.guard.specs.Requests.{Field, call, seat, user, role, entity, parent, kind, name, label, rights, shared, junior, field_in_range_in, rule_of}
use Rattle.guard.specs.Step.{in_ranges_in, answer_in, next_in, role_told_in, run_in, each_in, answers_in, roles_told_in, answer, next, role_told, run, answers, roles_told}
use Rattle.guard.specs.Old.{user_taken, session_taken, role_taken, entity_taken, taken_over}
use Rattle.guard.specs.Private.InForce.{field_in_range, in_ranges}
use Rattle.guard.specs.declared.Label.{Label}
use Rattle.guard.specs.declared.User.{User}
use Rattle.guard.specs.declared.Session.{Session}
use Rattle.guard.specs.declared.Role.{Role}
use Rattle.guard.specs.declared.Entity.{Entity}
use Rattle.guard.specs.declared.Tables.{Tables}
use Rattle.guard.specs.declared.Request.{Request}
use Rattle.guard.specs.declared.old.OldLabel.{OldLabel}
use Rattle.guard.specs.declared.old.OldUser.{OldUser}
use Rattle.guard.specs.declared.old.OldSession.{OldSession}
use Rattle.guard.specs.declared.old.OldRole.{OldRole}
use Rattle.guard.specs.declared.old.OldEntity.{OldEntity}
use Rattle.guard.specs.declared.old.OldTables.{OldTables}
use Rattle.guard.proofs.Laws.Label.{grade_in, cats_in, in_range}
use Rattle.guard.proofs.Laws.Sound.Facts.{Formed, SessionOk, EntityOk}
use Rattle.guard.proofs.Laws.Sound.{formed_e, backed_e, sound_i}
use Rattle.guard.proofs.Kept.{sound_next_in}
use Rattle.isolation.specs.Within.{field_within, categories_within, Fits, AsOld}

-- ---- a label
label_within : (v w : ℕ) (a : Label) → label_in_range_in v a ≡ true → a.cats ≤ w → label_in_range_in w a ≡ true
label_within v w a h l = in_range w a (grade_in v a h) l

-- ---- the tables
sound_fits : (width : ℕ) (t : Tables) → sound_in width t ≡ true → Fits width t
unfolding users_in_range_in user_in_range_in entity_in_range_in
sound_fits width t h =
    let ok = formed_e t h in
    record {
      users = λ u l. cats_in width _ (every_at _ (all_e 16 _ (every_at _ ok.users 1) u l) 1);
      sessions = λ s l. cats_in width _ (ok.session s l).label;
      entities = λ e l. cats_in width _ (every_at _ (ok.entity e l).range 3);
    }

fits_sound : (v w : ℕ) (t : Tables) → sound_in v t ≡ true → Fits w t → sound_in w t ≡ true
unfolding users_in_range_in user_in_range_in entity_in_range_in
fits_sound v w t h fits =
    sound_i t
    (record {
      edition = ok.edition;
      users = users;
      many_sessions = ok.many_sessions;
      many_roles = ok.many_roles;
      many_entities = ok.many_entities;
      session = session;
      role = ok.role;
      ties = ok.ties;
      entity = entity;
    })
    (backed_e _ t h)
  where
    ok : Formed v t
    ok = formed_e t h

    users : users_in_range_in w t.users ≡ true
    users =
        let old = ok.users in
        every_i _ (
          every_at _ old 0,
          (
            all_i 16 _ (λ u l.
                let one = all_e 16 _ (every_at _ old 1) u l in
                every_i _ (every_at _ one 0, (label_within v w _ (every_at _ one 1) (fits.users u l), tt))),
            tt,
          ),
        )

    session : (s : ℕ) → s < 16 → SessionOk w t.edition t.roles t.entities s (session_at t s)
    session s l =
        let old = ok.session s l in
        record {
          user = old.user;
          label = label_within v w _ old.label (fits.sessions s l);
          empty = old.empty;
          held = old.held;
          reading = old.reading;
          writing = old.writing;
        }

    range : (e : ℕ) → e < 64 → entity_in_range_in w (entity_at t e) ≡ true
    range e l =
        let old = every_at _ (ok.entity e l).range in
        every_i _ (old 0, (old 1, (old 2, (label_within v w _ (old 3) (fits.entities e l), (old 4, tt)))))

    entity : (e : ℕ) → e < 64 → EntityOk w t.entities e (entity_at t e)
    entity e l =
        let old = ok.entity e l in
        record { range = range e l; root = old.root; placed = old.placed; mark = old.mark; empty = old.empty }

more_fits : (v w : ℕ) (t : Tables) → v ≤ w → Fits v t → Fits w t
more_fits v w t h fits =
    record {
      users = λ u l. omega (arith, fits.users u l);
      sessions = λ s l. omega (arith, fits.sessions s l);
      entities = λ e l. omega (arith, fits.entities e l);
    }

sound_in_force : (t : Tables) → sound_in old_width t ≡ true → sound t ≡ true
sound_in_force t h = fits_sound old_width all_categories t h (more_fits old_width all_categories t (omega arith) (sound_fits old_width t h))

pub same_sound : (t : Tables) → Fits old_width t → sound_in old_width t ≡ sound t
same_sound t fits = both _ _ (sound_in_force t) (λ h. fits_sound all_categories old_width t h fits)

-- ---- one request
same_field_lem : (q : Request) (f : Field) → field_within old_width q f ≡ true → field_in_range_in old_width q f ≡ field_in_range q f
unfolding field_within field_in_range_in label_in_range_in
same_field_lem q call h = refl
same_field_lem q seat h = refl
same_field_lem q user h = refl
same_field_lem q role h = refl
same_field_lem q entity h = refl
same_field_lem q parent h = refl
same_field_lem q kind h = refl
same_field_lem q name h = refl
same_field_lem q label h =
    let l = leb-true q.cats old_width h in
    let now = le-leb q.cats all_categories (omega arith) in
    rw (h, now)
same_field_lem q rights h = refl
same_field_lem q shared h = refl
same_field_lem q junior h = refl

same_fields : (q : Request) (fs : List Field) → every (map (field_within old_width q) fs) ≡ true
    → every (map (field_in_range_in old_width q) fs) ≡ every (map (field_in_range q) fs)
unfolding every
same_fields q [] h = refl
same_fields q (f ∷ fs) h =
    let (here, more) = every_e (field_within old_width q f ∷ map (field_within old_width q) fs) h in
    ap₂ ◌&&◌ (same_field_lem q f here) (same_fields q fs (every_i (map (field_within old_width q) fs) more))

module _ (t : Tables) (ok : sound_in old_width t ≡ true) (q : Request) (within : categories_within old_width q ≡ true) where
  same_ranges : in_ranges_in old_width q ≡ in_ranges q
  unfolding in_ranges_in categories_within
  same_ranges = same_fields q (rule_of q).uses within

  same_answer : answer_in old_width t q ≡ answer t q
  unfolding answer_in
  same_answer = rw (ok, sound_in_force t ok, same_ranges)

  same_next : next_in old_width t q ≡ next t q
  unfolding next_in
  same_next = rw same_answer

  same_role : role_told_in old_width t q ≡ role_told t q
  unfolding role_told_in
  same_role = rw same_answer

-- ---- a log
pub same_log : (t : Tables) → sound_in old_width t ≡ true → (log : List Request) → every (map (categories_within old_width) log) ≡ true
    → (answers t log ≡ answers_in old_width t log) × (roles_told t log ≡ roles_told_in old_width t log) × (run t log ≡ run_in old_width t log)
    × (sound_in old_width (run t log) ≡ true)
unfolding each_in run_in
same_log t ok [] within = (refl, refl, refl, ok)
same_log t ok (q ∷ log) within =
    let (here, more) = every_e (categories_within old_width q ∷ map (categories_within old_width) log) within in
    let (told, roles, left, sound) = same_log (next_in old_width t q) (sound_next_in old_width t q ok) log (every_i _ more) in
    let next_is = same_next t ok q here in
    let answer_is = same_answer t ok q here in
    let role_is = same_role t ok q here in (
      rw (sym answer_is, sym next_is) (ap (λ (l : List ℕ). answer_in old_width t q ∷ l) told),
      rw (sym role_is, sym next_is) (ap (λ (l : List (Option ℕ)). role_told_in old_width t q ∷ l) roles),
      rw (sym next_is) left,
      rw (sym next_is) sound,
    )

-- ---- tables as old ones, every number the same; old ones have no marks, no ties and no edition
abbrev label_given : Label → OldLabel
label_given a = record { cats = a.cats; grade = a.grade }

abbrev user_given : User → OldUser
user_given u = record { ceiling = u.ceiling; clearance = label_given u.clearance }

abbrev session_given : Session → OldSession
session_given s =
    record { live = s.live; user = s.user; label = label_given s.label; roles = s.roles; reading = s.reading; writing = s.writing }

abbrev role_given : Role → OldRole
role_given r = record { live = r.live; users = r.users; reads = r.reads; writes = r.writes; executes = r.executes; owns = r.owns }

abbrev entity_given : Entity → OldEntity
entity_given e = record { live = e.live; kind = e.kind; parent = e.parent; name = e.name; label = label_given e.label }

unfoldable pub given_back : Tables → OldTables
given_back t =
    record {
      users = map user_given t.users;
      sessions = map session_given t.sessions;
      roles = map role_given t.roles;
      entities = map entity_given t.entities;
    }

there_and_back : {A B : Type 0} (f : B → A) (g : A → B) (l : List A) (d : A)
    → ((i : ℕ) → i < length l → f (g (get_or l i d)) ≡ get_or l i d) → map f (map g l) ≡ l
there_and_back f g [] d same = refl
there_and_back f g (a ∷ l) d same = ap₂ ◌∷◌ (same 0 (omega arith)) (there_and_back f g l d (λ i h. same (suc i) (omega arith)))

-- a role without juniors
role_back : (p : Role) → p.juniors ≡ 0 → role_taken (role_given p) ≡ p
role_back p none =
    λ i. record { live = p.live; users = p.users; juniors = sym none i; reads = p.reads; writes = p.writes; executes = p.executes; owns = p.owns }

-- an entity that is not marked
entity_back : (n : Entity) → n.shared ≡ 0 → entity_taken (entity_given n) ≡ n
entity_back n none = λ i. record { live = n.live; kind = n.kind; parent = n.parent; name = n.name; label = n.label; shared = sym none i }

taken_given : (t : Tables) → length t.roles ≡ role_count → length t.entities ≡ entity_count → AsOld t → taken_over (given_back t) ≡ t
unfolding taken_over given_back
taken_given t many long old =
    rw (
      there_and_back user_taken user_given t.users no_user (λ i h. refl),
      there_and_back session_taken session_given t.sessions no_session (λ i h. refl),
      there_and_back role_taken role_given t.roles no_role (λ i h. role_back _ (old.untied i (omega (arith, many)))),
      there_and_back entity_taken entity_given t.entities no_entity (λ i h. entity_back _ (old.unshared i (omega (arith, long)))),
      sym old.edition,
    )

pub old_ones : (t : Tables) → sound_in old_width t ≡ true → AsOld t → (old : OldTables) × (taken_over old ≡ t) × Fits old_width (taken_over old)
old_ones t ok none =
    let formed = formed_e t ok in
    let same = taken_given t formed.many_roles formed.many_entities none in
    (given_back t, same, rw same (sound_fits old_width t ok))
