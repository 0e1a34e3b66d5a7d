-- What a run stores where the answer is 0 is what the rule does.
--     Told, told, loses, no_loss      which kinds a change stands for, and which take rights away
--     session_stored, create_stored, delete_stored, alone_stored, role_stored, loss_stored
-- Assumes nothing.
use Prim.Native.Nat.{ℕ, ◌+◌, ◌≤◌, ◌<◌}
use mathlib.Core.Path.{◌≡◌, refl, sym, ap, subst, ◌∙◌}
use mathlib.Core.Bool.{Bool, true, false, cond, ◌||◌}
use mathlib.Core.List.{map}
use mathlib.Core.Logic.{◌⊎◌, inl, inr, ⊎_elim}
use native.Mathlib.Decide.{dec_lt, ℕ_discrete}
use native.Mathlib.Omega.{arith}
use lib.Dec.{leb, eqb}
use lib.ListN.{get_or, set, length-map}
use lib.Seq.{get_or-set_same}
use borrow.Author.Tests.{leb-true, leb-false, eqb-true, eqb-false}
use Rattle.bitset.specs.Tests.{either}
use Rattle.bitset.specs.Tests.Laws.{clash, of_not_false, either_e, either_no_l, either_no_r}
use Rattle.guard.specs.Label.{all_categories}
use Rattle.guard.specs.Tables.{no_session, no_role, session_at, role_at, entity_at}
use Rattle.guard.specs.Sound.{sound}
use Rattle.guard.specs.Edits.{with_sessions, with_roles, with_entities, at_session, at_role, at_entity, each_session, each_role, drop_role, close_both, remove_rights, clear_rights, list_user, unlist_user, tie_junior, untie_junior}
use Rattle.guard.specs.Backed.{backed, end_unbacked}
use Rattle.guard.specs.Requests.{Rule, rules, rule_of, login, logout, take, drop, openr, openw, close, create, delete, rename, grant, revoke, list, unlist, make, unmake, share, join as joining, unjoin}
use Rattle.guard.specs.Step.{in_ranges_in}
use Rattle.guard.specs.Kind as kind
use Rattle.guard.specs.Private.Inside.{number, Placed, change_of, OfEntity, ends_opens, session_after, entity_after, users_after, juniors_after, role_after, owning}
use Rattle.guard.specs.Private.Scan.{backed_by, Lost, kept_by, left_by}
use Rattle.guard.specs.Private.InForce.{in_ranges}
use Rattle.guard.specs.declared.Session.{Session}
use Rattle.guard.specs.declared.Role.{Role}
use Rattle.guard.specs.declared.Entity.{Entity}
use Rattle.guard.specs.declared.Tables.{Tables}
use Rattle.guard.specs.declared.Request.{Request}
use Rattle.guard.specs.declared.change.Change.{Change}
use Rattle.guard.specs.declared.change.Change.TheVariants.{Session as ASession, Entity as AnEntity, Role as ARole}
use Rattle.guard.specs.declared.look.Places.{Places}
use Rattle.guard.proofs.Laws.Refusals.{unmet}
use Rattle.guard.proofs.Laws.Sound.{RoleOk, TiesOk, Formed, formed_e, backed_e}
use Rattle.guard.proofs.Laws.Step.{DoneIn}
use Rattle.guard.proofs.Laws.Backed.{ended_is, acting_alone}
use Rattle.guard.proofs.Kept.EachStays.{map_each}
use Rattle.guard.proofs.Kept.Roles.{revoked_formed, unmade_formed, untied_formed}
use Rattle.guard.proofs.Given.{backed_by_lem}
use Rattle.guard.proofs.Swept.{kept_is, unmade_is}
use Rattle.guard.proofs.Granting.{granted, revoked, owned}
use Rattle.guard.proofs.Ranges.{span, past, is_nine, rule_at, fits_none, in_login, in_logout, in_take, in_drop, in_openr, in_openw, in_close, in_create, in_delete, in_rename, in_grant, in_revoke, in_list, in_unlist, in_make, in_unmake, in_share, in_tie}
use Rattle.guard.proofs.Answers.{done_in_range, done_allowed}

-- ---- which kinds a change stands for
abbrev pub Told : Change → ℕ → Type 0
Told ASession n = n ≤ 6
Told AnEntity n = OfEntity n
Told ARole n = (10 ≤ n) × (n ≡ 16 → ⊥)

told_of : (n : ℕ) → Told (change_of n) n
unfolding change_of either
told_of n = go (leb n 6) refl (leb n 9) refl (eqb n 16) refl
  where
    go : (a : Bool) → leb n 6 ≡ a → (b : Bool) → leb n 9 ≡ b → (s : Bool) → eqb n 16 ≡ s
        → Told (cond (leb n 6) ASession (cond (leb n 9 || eqb n 16) AnEntity ARole)) n
    go true ha b hb s hs = rw ha (leb-true n 6 ha)
    go false ha true hb s hs = rw (ha, hb) (inl (leb-false n 6 ha, leb-true n 9 hb))
    go false ha false hb true hs = rw (ha, hb, hs) (inr (eqb-true n 16 hs))
    go false ha false hb false hs = rw (ha, hb, hs) (leb-false n 9 hb, eqb-false n 16 hs)

pub told : (c d : Change) (n : ℕ) → d ≡ change_of n → d ≡ c → Told c n
told c d n h k = subst (λ (x : Change). Told x n) (sym h ∙ k) (told_of n)

-- revoke, unmake and unjoin take rights away, and no other kind
pub loses : (n : ℕ) → ends_opens n ≡ true → (n ≡ 11) ⊎ ((n ≡ 15) ⊎ (n ≡ 18))
unfolding ends_opens
loses n h = ⊎_elim (λ k. ⊎_elim (λ e. inl (eqb-true n 11 e)) (λ e. inr (inl (eqb-true n 15 e))) (either_e _ _ k)) (λ e. inr (inr (eqb-true n 18 e))) (either_e _ _ h)

pub no_loss : (n : ℕ) → ends_opens n ≡ false → (n ≡ 11 → ⊥) × (n ≡ 15 → ⊥) × (n ≡ 18 → ⊥)
unfolding ends_opens
no_loss n h =
    let two = either_no_l _ _ h in
    (eqb-false n 11 (either_no_l _ _ two), eqb-false n 15 (either_no_r _ _ two), eqb-false n 18 (either_no_r _ _ h))

-- a number below the next, and not the last
before : (k n : ℕ) → n < k + 1 → (n ≡ k → ⊥) → n < k
before k n h ne = omega (arith, h, ne)

module _ (t : Tables) (q : Request) (z : 0 ≡ number (rule_of q) t q) where
  ok : in_ranges q ≡ true
  ok = done_in_range t q z

  -- a number that is none of the nineteen is answered 2
  known : q.call < 19
  known = go (dec_lt q.call 19)
    where
      go : Dec (q.call < 19) → q.call < 19
      go (yes l) = l
      go (no l) = absurd (clash (in_ranges q) ok (sym (fits_none q (omega arith))))

  module _ (p : Places) (P : Placed q p) where
    -- ---- the acting session
    abbrev Done : Tables → Type 0
    Done u = u ≡ (rule_of q).effect q t

    module _ (sure : sound t ≡ true) where
      abbrev SessionDone : ℕ → Type 0
      SessionDone k = q.call ≡ k → Done (with_sessions t (set t.sessions p.seat (session_after (backed_by t.roles) q (session_at t p.seat))))

      login_done : SessionDone 0
      unfolding session_after rules login at_session
      login_done c = rw (rule_at q 0 c, c, P.seat.same (in_login q ok c).0)

      logout_done : SessionDone 1
      unfolding session_after rules logout at_session
      logout_done c = rw (rule_at q 1 c, c, P.seat.same (in_logout q ok c))

      take_done : SessionDone 2
      unfolding session_after rules take at_session
      take_done c = rw (rule_at q 2 c, c, P.seat.same (in_take q ok c).0)

      -- a drop ends opens of the acting session alone
      drop_done : SessionDone 3
      unfolding session_after rules drop at_session
      drop_done c =
          let x = (in_drop q ok c).0 in
          rw (rule_at q 3 c, c, P.seat.same x)
          (ap (λ (s : Session). with_sessions t (set t.sessions q.seat s)) (acting x)
          ∙ sym (acting_alone t q.seat (drop_role q.role) facts.many_sessions (backed_e _ t sure)))
        where
          facts : Formed all_categories t
          facts = formed_e t sure

          dropped : Tables
          dropped = at_session q.seat (drop_role q.role) t

          acting : q.seat < 16 → backed_by t.roles (drop_role q.role (session_at t q.seat)) ≡ backed dropped q.seat
          acting l =
              ap (backed_by t.roles) (sym (get_or-set_same t.sessions q.seat _ no_session (omega (arith, facts.many_sessions))))
              ∙ backed_by_lem dropped facts.role facts.ties q.seat

      openr_done : SessionDone 4
      unfolding session_after rules openr at_session
      openr_done c = rw (rule_at q 4 c, c, P.seat.same (in_openr q ok c).0)

      openw_done : SessionDone 5
      unfolding session_after rules openw at_session
      openw_done c = rw (rule_at q 5 c, c, P.seat.same (in_openw q ok c).0)

      close_done : SessionDone 6
      unfolding session_after rules close at_session
      close_done c = rw (rule_at q 6 c, c, P.seat.same (in_close q ok c).0)

      pub session_stored : q.call ≤ 6 → (s : Session) → s ≡ session_after (backed_by t.roles) q (session_at t p.seat) → Done (with_sessions t (set t.sessions p.seat s))
      session_stored h s same =
          rw same
          (span SessionDone 0 7
          (login_done, (logout_done, (take_done, (drop_done, (openr_done, (openw_done, (close_done, tt)))))))
          q.call (omega arith) (omega arith) refl)

    -- ---- the entity
    pub create_stored : q.call ≡ kind.create → (f : Entity) (r : Role) → f ≡ entity_after q (entity_at t p.entity) → r ≡ owning q.entity (role_at t p.role)
        → Done (with_roles (with_entities t (set t.entities p.entity f)) (set t.roles p.role r))
    unfolding entity_after rules create at_role at_entity
    create_stored c f r hf hr =
        let i = in_create q ok c in
        rw (rule_at q 7 c, hf, hr, c, owned q.entity (role_at t p.role), P.role.same i.role, P.entity.same i.entity)

    pub delete_stored : q.call ≡ kind.delete → (f : Entity) → f ≡ entity_after q (entity_at t p.entity)
        → Done (with_sessions (with_roles (with_entities t (set t.entities p.entity f)) (map (clear_rights q.entity) t.roles)) (map (close_both q.entity) t.sessions))
    unfolding entity_after rules delete each_session each_role at_entity
    delete_stored c f hf = rw (rule_at q 8 c, hf, c, P.entity.same (in_delete q ok c).1)

    abbrev EntityDone : ℕ → Type 0
    EntityDone k = q.call ≡ k → Done (with_entities t (set t.entities p.entity (entity_after q (entity_at t p.entity))))

    rename_done : EntityDone 9
    unfolding entity_after rules rename at_entity
    rename_done c = rw (rule_at q 9 c, c, P.entity.same (in_rename q ok c).1)

    share_done : EntityDone 16
    unfolding entity_after rules share at_entity
    share_done c = rw (rule_at q 16 c, c, P.entity.same (in_share q ok c).1)

    -- rename and share change no other record
    pub alone_stored : OfEntity q.call → (q.call ≡ kind.create → ⊥) → (q.call ≡ kind.delete → ⊥) → (f : Entity)
        → f ≡ entity_after q (entity_at t p.entity) → Done (with_entities t (set t.entities p.entity f))
    alone_stored of a b f hf = rw hf (go (ℕ_discrete q.call 16))
      where
        go : Dec (q.call ≡ 16) → Done (with_entities t (set t.entities p.entity (entity_after q (entity_at t p.entity))))
        go (yes c) = share_done c
        go (no c) = rename_done (is_nine q.call of a b c)

    -- ---- the role
    abbrev RoleDone : ℕ → Type 0
    RoleDone k = q.call ≡ k → Done (with_roles t (set t.roles p.role (role_after q (role_at t p.role))))

    grant_done : RoleDone 10
    unfolding role_after rules grant at_role
    grant_done c = rw (rule_at q 10 c, c, granted q.entity (role_at t p.role) q.rights, P.role.same (in_grant q ok c).1)

    list_done : RoleDone 12
    unfolding role_after users_after juniors_after rules list list_user at_role
    list_done c =
        let rule = rule_at q 12 c in
        let live : (role_at t q.role).live ≡ true = of_not_false _ (unmet _ refl (rw rule at (done_allowed t q z)) 7) in
        rw (rule, c, P.role.same (in_list q ok c).1, live)

    unlist_done : RoleDone 13
    unfolding role_after users_after juniors_after rules unlist unlist_user at_role
    unlist_done c =
        let rule = rule_at q 13 c in
        let live : (role_at t q.role).live ≡ true = of_not_false _ (unmet _ refl (rw rule at (done_allowed t q z)) 7) in
        rw (rule, c, P.role.same (in_unlist q ok c).1, live)

    -- a dead role of sound tables is empty
    make_done : sound t ≡ true → RoleDone 14
    unfolding role_after users_after juniors_after rules make at_role
    make_done sure c =
        let rule = rule_at q 14 c in
        let role = (in_make q ok c).1 in
        let dead : (role_at t q.role).live ≡ false = unmet _ refl (rw rule at (done_allowed t q z)) 8 in
        let facts = (formed_e t sure).role q.role role in
        rw (rule, c, P.role.same role, facts.users.none dead, facts.juniors.none dead, facts.reads.none dead, facts.writes.none dead, facts.executes.none dead, facts.owns.none dead)

    -- join, and unjoin before opens end
    join_done : RoleDone 17
    unfolding role_after users_after juniors_after rules joining tie_junior at_role
    join_done c =
        let rule = rule_at q 17 c in
        let live : (role_at t q.role).live ≡ true = of_not_false _ (either_no_l _ _ (unmet _ refl (rw rule at (done_allowed t q z)) 7)) in
        rw (rule, c, P.role.same (in_tie q ok (omega (arith, c)) (omega (arith, c))).1, live)

    untied_is : q.call ≡ 18 → with_roles t (set t.roles p.role (role_after q (role_at t p.role))) ≡ at_role q.role (untie_junior q.junior) t
    unfolding role_after users_after juniors_after rules unjoin untie_junior at_role
    untied_is c =
        let rule = rule_at q 18 c in
        let live : (role_at t q.role).live ≡ true = of_not_false _ (either_no_l _ _ (unmet _ refl (rw rule at (done_allowed t q z)) 7)) in
        rw (c, P.role.same (in_tie q ok (omega (arith, c)) (omega (arith, c))).1, live)

    pub role_stored : sound t ≡ true → (10 ≤ q.call) × (q.call ≡ 16 → ⊥) → (q.call ≡ 11 → ⊥) × (q.call ≡ 15 → ⊥) × (q.call ≡ 18 → ⊥) → (r : Role)
        → r ≡ role_after q (role_at t p.role) → Done (with_roles t (set t.roles p.role r))
    role_stored sure (low, not) (revokes, unmakes, unjoins) r same = rw same (go (ℕ_discrete q.call 10) (ℕ_discrete q.call 17))
      where
        go : Dec (q.call ≡ 10) → Dec (q.call ≡ 17) → Done (with_roles t (set t.roles p.role (role_after q (role_at t p.role))))
        go (yes c) other = grant_done c
        go (no ne) (yes c) = join_done c
        go (no ne) (no other) =
            span RoleDone 12 3 (list_done, (unlist_done, (make_done sure, tt))) q.call (past 11 _ (past 10 _ low ne) revokes)
            (before 15 _ (before 16 _ (before 17 _ (before 18 _ known unjoins) other) not) unmakes) refl

    -- ---- the role loses rights or a junior, or goes: opens that are no longer backed end
    module _ (sure : sound t ≡ true) (r : Role) (same : r ≡ role_after q (role_at t p.role))
        (lost : ℕ) (is_lost : Lost (set t.roles p.role r) (role_at t p.role) r lost) where
      facts : Formed all_categories t
      facts = formed_e t sure

      done_as : (rule : Rule) → rule_of q ≡ rule → DoneIn all_categories rule t q
      unfolding in_ranges_in
      done_as rule is = subst (λ (a : Rule). DoneIn all_categories a t q) is (record { is_sound = sure; ranges = ok; none = done_allowed t q z })

      abbrev replaced : Tables
      replaced = with_roles t (set t.roles p.role r)

      -- each session, over roles that are as soundness asks
      kept : ((k : ℕ) → k < 16 → RoleOk t.entities k (role_at replaced k)) → TiesOk replaced.roles → (x : ℕ) → x < 16
          → backed replaced x ≡ kept_by replaced.roles lost (session_at t x)
      kept roles ties = kept_is t p.role r P.role.small facts.many_roles facts.ties roles lost is_lost (backed_e _ t sure) ties

      -- the role is changed by f, and stays
      changed : (f : Role → Role) → replaced ≡ at_role q.role f t → Formed all_categories (at_role q.role f t)
          → with_sessions replaced (map (left_by replaced.roles q.role lost false) t.sessions) ≡ end_unbacked (at_role q.role f t)
      unfolding left_by
      changed f inner formed = sym ended ∙ ap end_unbacked inner
        where
          after : Formed all_categories replaced
          after = subst (Formed all_categories) (sym inner) formed

          ended : end_unbacked replaced ≡ with_sessions replaced (map (left_by replaced.roles q.role lost false) t.sessions)
          ended =
              ended_is replaced _ (length-map t.sessions _ ∙ facts.many_sessions)
              (map_each (λ x a. backed replaced x ≡ a) (left_by replaced.roles q.role lost false) 16 t.sessions no_session facts.many_sessions (kept after.role after.ties))

      revoke_stored : q.call ≡ 11 → Done (with_sessions replaced (map (left_by replaced.roles q.role lost false) t.sessions))
      unfolding rules revoke role_after at_role
      revoke_stored c =
          rw (rule_at q 11 c)
          (changed (remove_rights q.entity q.rights)
          (rw (same, c, revoked q.entity (role_at t p.role) q.rights, P.role.same (in_revoke q ok c).1))
          (revoked_formed t q (done_as revoke (rule_at q 11 c))))

      unjoin_stored : q.call ≡ 18 → Done (with_sessions replaced (map (left_by replaced.roles q.role lost false) t.sessions))
      unfolding rules unjoin
      unjoin_stored c =
          rw (rule_at q 18 c)
          (changed (untie_junior q.junior) (ap (λ (a : Role). with_roles t (set t.roles p.role a)) same ∙ untied_is c) (untied_formed t q (done_as unjoin (rule_at q 18 c))))

      unmake_stored : q.call ≡ 15 → Done (with_sessions replaced (map (left_by replaced.roles q.role lost true) t.sessions))
      unfolding rules unmake left_by role_after each_session at_role
      unmake_stored c = rw (rule_at q 15 c) (sym ended ∙ ap end_unbacked inner)
        where
          small : q.role < 16
          small = (in_unmake q ok c).1

          gone : r ≡ no_role
          gone = same ∙ rw c

          unheld : Tables
          unheld = with_sessions replaced (map (drop_role q.role) t.sessions)

          inner : unheld ≡ each_session (drop_role q.role) (at_role q.role (λ old. no_role) t)
          inner = rw (gone, P.role.same small)

          after : Formed all_categories unheld
          after = subst (Formed all_categories) (sym inner) (unmade_formed t q (done_as unmake (rule_at q 15 c)))

          empty : role_at replaced q.role ≡ no_role
          empty = rw (sym (P.role.same small)) (get_or-set_same t.roles p.role r no_role (omega (arith, P.role.small, facts.many_roles)) ∙ gone)

          dropped : (x : ℕ) → x < 16 → get_or (map (drop_role q.role) t.sessions) x no_session ≡ drop_role q.role (session_at t x)
          dropped = map_each (λ x a. a ≡ drop_role q.role (session_at t x)) (drop_role q.role) 16 t.sessions no_session facts.many_sessions (λ x l. refl)

          ended : end_unbacked unheld ≡ with_sessions replaced (map (left_by replaced.roles q.role lost true) t.sessions)
          ended =
              ended_is unheld _ (length-map t.sessions _ ∙ facts.many_sessions)
              (map_each (λ x a. backed unheld x ≡ a) (left_by replaced.roles q.role lost true) 16 t.sessions no_session facts.many_sessions (λ x l.
              unmade_is replaced _ q.role empty x (dropped x l) ∙ ap (drop_role q.role) (kept after.role after.ties x l)))

      pub loss_stored : (q.call ≡ 11) ⊎ ((q.call ≡ 15) ⊎ (q.call ≡ 18)) → (unmade : Bool) → unmade ≡ eqb q.call 15
          → Done (with_sessions replaced (map (left_by replaced.roles q.role lost unmade) t.sessions))
      loss_stored (inl c) unmade is = let kept' : unmade ≡ false = is ∙ rw c in rw kept' (revoke_stored c)
      loss_stored (inr (inl c)) unmade is = let gone' : unmade ≡ true = is ∙ rw c in rw gone' (unmake_stored c)
      loss_stored (inr (inr c)) unmade is = let kept' : unmade ≡ false = is ∙ rw c in rw kept' (unjoin_stored c)
