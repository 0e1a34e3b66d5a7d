-- Tables stay formed where one role is replaced: grant, revoke, list, unlist, make; and where every session drops a role
-- that is then emptied: unmake; and where two roles are tied or untied: join, unjoin.
--     listed_ok, empty_ok                     a role with other users listed, or with nothing
--     granted_ok, fewer_ok                    .. with other rights on one entity: any that it may have, or none that it has not
--     role_kept, each_role_kept               the edits, of one role and of each
--     keeps_grant .. keeps_unjoin             the rules; revoked_formed, unmade_formed and untied_formed before opens end
-- Assumes nothing.
use Prim.Native.Nat.{ℕ, ◌<◌}
use mathlib.Core.Path.{◌≡◌, refl, sym, ap, ◌∙◌}
use mathlib.Core.Bool.{Bool, true, false, not, and-eq-true_iff}
use mathlib.Core.List.{List, map}
use mathlib.Core.Logic.{◌⊎◌, ⊎_elim}
use lib.ListN.{length, get_or, set, length-set, length-map}
use borrow.Author.Tests.{ltb-true, eqb-false}
use Rattle.bitset.specs.Tests.Laws.{clash, of_not_false, every_i, every_at, either_l, either_r, either_no_l, either_no_r, some_no_e}
use Rattle.bitset.specs.Sets.{has, minus, contains, with}
use Rattle.bitset.specs.Sets.Laws.{has_none, has_minus, has_without, has_without_same, has_contains, contains_trans}
use Rattle.guard.specs.Level.{role_level, entity_level, is_keeper}
use Rattle.guard.specs.Tables.{no_session, no_role, session_at, role_at, entity_at, is_junior, rights_of}
use Rattle.guard.specs.Edits.{with_roles, at_role, each_role, each_session, drop_role, listing, tying, put_in, granting, set_rights, add_rights, remove_rights, list_user, unlist_user, tie_junior, untie_junior}
use Rattle.guard.specs.Conditions.{grant_below, tie_out_of_level, closes_cycle, role_tied}
use Rattle.guard.specs.Requests.{field_in_range_in, grant, revoke, list, unlist, make, unmake, join, unjoin}
use Rattle.guard.specs.declared.Role.{Role}
use Rattle.guard.specs.declared.Entity.{Entity}
use Rattle.guard.specs.declared.Tables.{Tables}
use Rattle.guard.specs.declared.Request.{Request}
use Rattle.guard.proofs.Laws.Refusals.{unmet}
use Rattle.guard.proofs.Laws.Step.{DoneIn}
use Rattle.guard.proofs.Laws.Below.{below_i}
use Rattle.guard.proofs.Laws.Rights.{contains_read, contains_write, contains_execute, contains_own, put_same}
use Rattle.guard.proofs.Laws.Sound.{role_in, entity_in, grantable, SetOk, RoleOk, TiesOk, Formed, formed_e}
use Rattle.guard.proofs.Kept.EachStays.{set_each, map_each, as_ok, seen_ok, none_ok, with_ok, without_ok, put_ok}
use Rattle.guard.proofs.Kept.Ties.{role_ties, each_ties, joined_ties}
use Rattle.guard.proofs.Kept.Sessions.{Keeps, not_below, dropped_ok, each_session_kept, ended_kept}

-- ---- a set with a member that it has, and one less some members
with_same : (s e : ℕ) → has s e ≡ true → with s e ≡ s
unfolding put_in
with_same s e h = rw h at (put_same e s)

contains_minus : (a b : ℕ) → contains a (minus a b) ≡ true
contains_minus a b =
    has_contains a (minus a b) (λ i h. ((and-eq-true_iff (has a i) (not (has b i))).0 (sym (has_minus a b i) ∙ h)).0)

-- ---- one role, over the entities of the tables
module _ (es : List Entity) (r : ℕ) (p : Role) (ok : RoleOk es r p) where
  listed_ok : (users : ℕ) → SetOk 16 p.live (λ u. true) users → RoleOk es r (listing users p)
  listed_ok users new =
      record { keeper = ok.keeper; users = new; juniors = ok.juniors; reads = ok.reads; writes = ok.writes; executes = ok.executes; owns = ok.owns }

  tied_ok : (juniors : ℕ) → SetOk 16 p.live (λ j. true) juniors → RoleOk es r (tying juniors p)
  tied_ok juniors new =
      record { keeper = ok.keeper; users = ok.users; juniors = new; reads = ok.reads; writes = ok.writes; executes = ok.executes; owns = ok.owns }

  -- the four sets at once: s is the one by which the role has the right m
  granting_ok : (e n : ℕ)
      → ((m s : ℕ) → contains (rights_of p e) m ≡ has s e → SetOk 64 p.live (λ f. grantable r f (entity_in es f)) s
      → SetOk 64 p.live (λ f. grantable r f (entity_in es f)) (put_in (contains n m) e s))
      → RoleOk es r (granting e n p)
  granting_ok e n new =
      record {
        keeper = ok.keeper;
        users = ok.users;
        juniors = ok.juniors;
        reads = new 1 _ (contains_read p e) ok.reads;
        writes = new 2 _ (contains_write p e) ok.writes;
        executes = new 4 _ (contains_execute p e) ok.executes;
        owns = new 8 _ (contains_own p e) ok.owns;
      }

  -- any rights, where the role is live and may have them
  pub granted_ok : (e n : ℕ) → p.live ≡ true → e < 64 → grantable r e (entity_in es e) ≡ true → RoleOk es r (granting e n p)
  granted_ok e n live l can = granting_ok e n (λ m s same old. put_ok _ _ _ _ e s old (λ _. with_ok _ _ _ s e old live l can))

  -- no rights that it has not
  pub fewer_ok : (e n : ℕ) → contains (rights_of p e) n ≡ true → RoleOk es r (granting e n p)
  fewer_ok e n fewer =
      granting_ok e n (λ m s same old. put_ok _ _ _ _ e s old (λ has_m.
      rw (with_same s e (sym same ∙ contains_trans _ n m fewer has_m)) old))

empty_ok : (es : List Entity) (r : ℕ) (live : Bool) → (is_keeper r ≡ true → live ≡ true)
    → RoleOk es r (record { live = live; users = 0; juniors = 0; reads = 0; writes = 0; executes = 0; owns = 0 })
empty_ok es r live keeper =
    record {
      keeper = keeper;
      users = none_ok _ _ _;
      juniors = none_ok _ _ _;
      reads = none_ok _ _ _;
      writes = none_ok _ _ _;
      executes = none_ok _ _ _;
      owns = none_ok _ _ _;
    }

-- ---- the roles replaced
roles_kept : {width : ℕ} (t : Tables) (roles : List Role) → Formed width t → length roles ≡ 16
    → ((s : ℕ) → s < 16 → SetOk 16 (session_at t s).live (λ p. (role_in roles p).live) (session_at t s).roles)
    → ((r : ℕ) → r < 16 → RoleOk t.entities r (role_in roles r)) → TiesOk roles → Formed width (with_roles t roles)
roles_kept t roles ok many held new ties =
    record {
      edition = ok.edition;
      users = ok.users;
      many_sessions = ok.many_sessions;
      many_roles = many;
      many_entities = ok.many_entities;
      session = λ s l.
          let old = ok.session s l in
          record { user = old.user; label = old.label; empty = old.empty; held = held s l; reading = old.reading; writing = old.writing };
      role = new;
      ties = ties;
      entity = ok.entity;
    }

-- a role that somebody holds stays live
pub role_kept : (width : ℕ) (t : Tables) (r : ℕ) (f : Role → Role) → Formed width t
    → ((s : ℕ) → s < 16 → has (session_at t s).roles r ≡ true → (role_at t r).live ≡ true → (f (role_at t r)).live ≡ true)
    → (r < 16 → RoleOk t.entities r (role_at t r) → RoleOk t.entities r (f (role_at t r)))
    → TiesOk (set t.roles r (f (role_at t r)))
    → Formed width (at_role r f t)
unfolding at_role
role_kept width t r f ok stays new ties =
    roles_kept t _ ok (length-set t.roles r _ ∙ ok.many_roles)
    (λ s l. seen_ok 16 _ (λ j a. a.live) _ t.roles _ r _ ok.many_roles (ok.session s l).held (stays s l))
    (set_each (RoleOk t.entities) 16 t.roles _ ok.many_roles r _ (λ j l ne. ok.role j l) (λ l. new l (ok.role r l)))
    ties

-- .. and has its juniors still, and no others
pub ties_kept : {width : ℕ} (t : Tables) (r : ℕ) (p : Role) → Formed width t → p.juniors ≡ (role_at t r).juniors
    → ((role_at t r).live ≡ true → p.live ≡ true) → TiesOk (set t.roles r p)
ties_kept t r p ok same live =
    role_ties t.roles r p ok.many_roles ok.ties (λ j l h. ap (λ (s : ℕ). has s j) (sym same) ∙ h) (λ k l way. live)

pub each_role_kept : (width : ℕ) (t : Tables) (f : Role → Role) → Formed width t
    → ((p : Role) → (f p).live ≡ p.live) → ((p : Role) → (f p).juniors ≡ p.juniors)
    → ((r : ℕ) (p : Role) → RoleOk t.entities r p → RoleOk t.entities r (f p))
    → Formed width (each_role f t)
unfolding each_role
each_role_kept width t f ok live juniors new =
    roles_kept t _ ok (length-map t.roles f ∙ ok.many_roles)
    (λ s l. as_ok 16 _ _ _ _ (ok.session s l).held
    (map_each (λ j a. has (session_at t s).roles j ≡ true → (role_at t j).live ≡ true → a.live ≡ true) f 16 t.roles _ ok.many_roles
    (λ j k m old. live _ ∙ old)))
    (map_each (RoleOk t.entities) f 16 t.roles _ ok.many_roles (λ r l. new r _ (ok.role r l)))
    (each_ties t.roles f ok.many_roles ok.ties live juniors)

-- ---- the rules
pub keeps_grant : {width : ℕ} → Keeps width grant
unfolding grant grant_below add_rights set_rights field_in_range_in
keeps_grant t q d =
    let no = unmet _ refl d.none in
    let level = not_below (role_level q.role) (entity_level q.entity) (either_no_r _ _ (no 10)) in
    let can : grantable q.role q.entity (entity_at t q.entity) ≡ true =
    every_i _ (of_not_false _ (either_no_l _ _ (no 7)), (level, tt)) in
    role_kept _ t q.role _ (formed_e t d.is_sound) (λ s l m live. live) (λ l old.
    granted_ok _ _ _ old q.entity _ (of_not_false _ (either_no_r _ _ (no 7))) (ltb-true _ _ (every_at _ d.ranges 2)) can)
    (ties_kept t q.role _ (formed_e t d.is_sound) refl (λ live. live))

-- before opens end
pub revoked_formed : {width : ℕ} (t : Tables) (q : Request) → DoneIn width revoke t q → Formed width (at_role q.role (remove_rights q.entity q.rights) t)
unfolding remove_rights set_rights
revoked_formed t q d =
    role_kept _ t q.role _ (formed_e t d.is_sound) (λ s l m live. live)
    (λ l old. fewer_ok _ _ _ old q.entity _ (contains_minus _ q.rights))
    (ties_kept t q.role _ (formed_e t d.is_sound) refl (λ live. live))

pub keeps_revoke : {width : ℕ} → Keeps width revoke
unfolding revoke
keeps_revoke t q d = ended_kept _ (revoked_formed t q d)

pub keeps_list : {width : ℕ} → Keeps width list
unfolding list list_user field_in_range_in
keeps_list t q d =
    role_kept _ t q.role _ (formed_e t d.is_sound) (λ s l m live. live) (λ l old.
    listed_ok _ _ _ old _
    (with_ok _ _ _ _ q.user old.users (of_not_false _ (unmet _ refl d.none 7)) (ltb-true _ _ (every_at _ d.ranges 2)) refl))
    (ties_kept t q.role _ (formed_e t d.is_sound) refl (λ live. live))

pub keeps_unlist : {width : ℕ} → Keeps width unlist
unfolding unlist unlist_user
keeps_unlist t q d =
    role_kept _ t q.role _ (formed_e t d.is_sound) (λ s l m live. live)
    (λ l old. listed_ok _ _ _ old _ (without_ok _ _ _ _ q.user old.users))
    (ties_kept t q.role _ (formed_e t d.is_sound) refl (λ live. live))

pub keeps_make : {width : ℕ} → Keeps width make
unfolding make
keeps_make t q d =
    role_kept _ t q.role _ (formed_e t d.is_sound) (λ s l m live. refl) (λ l old. empty_ok _ _ true (λ k. refl))
    (role_ties t.roles q.role _ (formed_e t d.is_sound).many_roles (formed_e t d.is_sound).ties (λ j l h. absurd (clash _ h (has_none j))) (λ k l way live. refl))

-- every session drops the role, and it is emptied then
pub unmade_formed : {width : ℕ} (t : Tables) (q : Request) → DoneIn width unmake t q
    → Formed width (each_session (drop_role q.role) (at_role q.role (λ old. no_role) t))
unfolding unmake each_session at_role drop_role role_tied
unmade_formed t q d =
    let dropped = each_session_kept t (drop_role q.role) (formed_e t d.is_sound) (λ s r ok. dropped_ok _ _ _ _ ok q.role) in
    role_kept _ (each_session (drop_role q.role) t) q.role (λ old. no_role) dropped
    (λ s l m live. absurd (clash _ m (none s l)))
    (λ l old. empty_ok _ _ false (λ k. absurd (clash _ k (unmet _ refl d.none 6))))
    (role_ties t.roles q.role _ dropped.many_roles dropped.ties (λ j l h. absurd (clash _ h (has_none j))) (λ k l way live. absurd (untied k l way)))
  where
    untied : (k : ℕ) → k < 16 → (is_junior t q.role k ≡ true) ⊎ (is_junior t k q.role ≡ true) → ⊥
    untied k l way = clash _ (⊎_elim (either_l _ _) (either_r _ _) way) (some_no_e 16 _ (unmet _ refl d.none 15) k l)

    none : (s : ℕ) → s < 16 → has (get_or (map (drop_role q.role) t.sessions) s no_session).roles q.role ≡ false
    none =
        map_each (λ s a. has a.roles q.role ≡ false) (drop_role q.role) 16 t.sessions no_session (formed_e t d.is_sound).many_sessions
        (λ s l. has_without_same _ q.role)

pub keeps_unmake : {width : ℕ} → Keeps width unmake
unfolding unmake
keeps_unmake t q d = ended_kept _ (unmade_formed t q d)

-- ---- ties
pub keeps_join : {width : ℕ} → Keeps width join
unfolding join tie_junior tie_out_of_level closes_cycle field_in_range_in
keeps_join t q d =
    let ok = formed_e t d.is_sound in
    let no = unmet _ refl d.none in
    let senior = ltb-true _ _ (every_at _ d.ranges 1) in
    let low = ltb-true _ _ (every_at _ d.ranges 2) in
    let live = of_not_false _ (either_no_l _ _ (no 7)) in
    role_kept _ t q.role _ ok (λ s l m alive. alive)
    (λ l old. tied_ok _ _ _ old _ (with_ok _ _ _ _ q.junior old.juniors live low refl))
    (joined_ties t.roles q.role q.junior ok.many_roles senior low ok.ties live (of_not_false _ (either_no_r _ _ (no 7)))
    (of_not_false _ (either_no_r _ _ (no 10))) (eqb-false _ _ (either_no_l _ _ (no 22))) (λ b. clash _ (below_i _ _ _ low b) (either_no_r _ _ (no 22))))

-- before opens end
pub untied_formed : {width : ℕ} (t : Tables) (q : Request) → DoneIn width unjoin t q → Formed width (at_role q.role (untie_junior q.junior) t)
unfolding untie_junior
untied_formed t q d =
    let ok = formed_e t d.is_sound in
    role_kept _ t q.role _ ok (λ s l m live. live)
    (λ l old. tied_ok _ _ _ old _ (without_ok _ _ _ _ q.junior old.juniors))
    (role_ties t.roles q.role _ ok.many_roles ok.ties (λ j l h. (has_without _ q.junior j h).0) (λ k l way live. live))

pub keeps_unjoin : {width : ℕ} → Keeps width unjoin
unfolding unjoin
keeps_unjoin t q d = ended_kept _ (untied_formed t q d)
