-- What a run looks at for one request is what deciding asks for.
--     view_at                        the record that the body makes, from the places looked up and what the scans tell
--     parent_in                     the parent's place is one of the sixty-four
--     seen_of                       it holds the records that the request concerns, and the answers to what it asks
-- Assumes nothing.
use Prim.Native.Nat.{ℕ, ◌≤◌, ◌<◌}
use mathlib.Core.Path.{◌≡◌, refl, ap, ◌∙◌}
use mathlib.Core.Bool.{Bool, true, false, not, cond}
use mathlib.Core.List.{List}
use lib.Dec.{eqb}
use borrow.Author.Tests.{eq-eqb}
use Rattle.bitset.specs.Tests.{either}
use Rattle.guard.specs.Level.{is_root}
use Rattle.guard.specs.Below.{or_below}
use Rattle.guard.specs.Tables.{user_at, session_at, role_at, entity_at}
use Rattle.guard.specs.Chain.{reaches}
use Rattle.guard.specs.Sound.{sound}
use Rattle.guard.specs.Conditions.{name_taken, has_children, role_tied, closes_cycle, recorded_parent}
use Rattle.guard.specs.Kind as kind
use Rattle.guard.specs.Private.Inside.{Placed, asks_way, asks_name, asks_rights, RightsOf, Seen}
use Rattle.guard.specs.Private.Scan.{Keys, tie_by, senior_by, tied_by, reached_by, name_by, child_by, kin_by, FoundBy}
use Rattle.guard.specs.declared.Role.{Role}
use Rattle.guard.specs.declared.Tables.{Tables}
use Rattle.guard.specs.declared.Request.{Request}
use Rattle.guard.specs.declared.look.Places.{Places}
use Rattle.guard.specs.declared.scan.Found.{Found}
use Rattle.guard.specs.declared.view.View.{View}
use Rattle.guard.proofs.Soundness.Whole.{numbers}
use Rattle.guard.proofs.Laws.Sound.{role_in, formed_e}
use Rattle.guard.proofs.Given.{rights_of_lem}
use Rattle.guard.proofs.TiesAsked.{tied_of, cycle_of}
use Rattle.guard.proofs.Columns.{way_of, child_of_lem, name_of}

abbrev pub view_at : Tables → Places → ℕ → Found → View
view_at t p o f =
    record {
      session = session_at t p.seat;
      user = user_at t p.user;
      live = (role_at t p.role).live;
      users = (role_at t p.role).users;
      juniors = (role_at t p.role).juniors;
      alive = (role_at t p.junior).live;
      entity = entity_at t p.entity;
      parent = entity_at t o;
      found = f;
      edition = t.edition;
    }

cond_less : (b : Bool) (m n : ℕ) → m < 64 → n < 64 → cond b m n < 64
cond_less true m n h k = h
cond_less false m n h k = k

-- what each kind asks of the children
module _ (keys : List ℕ) (call e o name : ℕ) where
  kin_create : call ≡ kind.create → kin_by keys call e o name ≡ name_by keys o name
  unfolding kin_by asks_name either
  kin_create c = rw c

  kin_rename : call ≡ kind.rename → kin_by keys call e o name ≡ name_by keys o name
  unfolding kin_by asks_name either
  kin_rename c = rw c

  kin_delete : call ≡ kind.delete → kin_by keys call e o name ≡ child_by keys e
  unfolding kin_by
  kin_delete c = rw c

-- .. and of the ties
module _ (roles : List Role) (call r j : ℕ) where
  asked_unmake : call ≡ kind.unmake → tied_by roles call r j ≡ either (not (eqb (role_in roles r).juniors 0)) (senior_by roles r)
  unfolding tied_by
  asked_unmake c = rw c

  asked_join : call ≡ kind.join → tied_by roles call r j ≡ or_below (tie_by roles) (eqb r) j
  unfolding tied_by
  asked_join c = rw c

  asked_unjoin : call ≡ kind.unjoin → tied_by roles call r j ≡ false
  unfolding tied_by
  asked_unjoin c = rw c

module _ (t : Tables) (ok : sound t ≡ true) (q : Request) (p : Places) (P : Placed q p)
    (o : ℕ) (above : o ≡ cond (eqb q.call kind.create) p.parent (entity_at t p.entity).parent)
  where
    pub parent_in : o < 64
    parent_in = rw above (cond_less (eqb q.call kind.create) _ _ P.parent.small (numbers t ok p.entity P.entity.small).parent)

    module _ (keys : List ℕ) (K : Keys t.entities keys) (f : Found)
        (found : FoundBy keys t.roles q (session_at t p.seat).roles p.entity o p.role p.junior f)
      where
        named : q.call ≡ kind.create → o ≡ p.parent
        named c = above ∙ rw (eq-eqb q.call 7 c)

        recorded : eqb q.call kind.create ≡ false → o ≡ (entity_at t p.entity).parent
        recorded c = above ∙ rw c

        rights : asks_rights q.call ≡ true → q.seat < 16 → RightsOf t q.seat f.rights
        rights a s =
            let same : p.seat ≡ q.seat = P.seat.same s in
            rights_of_lem t (formed_e t ok).role (formed_e t ok).ties q.seat f.rights (rw same at (found.rights a))

        reached_so : asks_way q.call ≡ true → q.seat < 16 → q.entity < 64 → f.reached ≡ reaches t q.seat q.entity
        unfolding reached_by asks_rights either
        reached_so a s e =
            found.reached ∙ rw (a, P.entity.same e) (way_of t ok keys K q.seat f.rights.executes q.entity e (rights (rw a) s).executes)

        create_name : q.call ≡ kind.create → q.parent < 64 → 1 ≤ q.name → q.name ≤ 65535 → f.kin ≡ name_taken t q q.parent
        unfolding asks_rights asks_way asks_name either
        create_name c l least most =
            found.kin (rw c)
            ∙ kin_create keys q.call p.entity o q.name c
            ∙ ap (λ (n : ℕ). name_by keys n q.name) (named c ∙ P.parent.same l)
            ∙ name_of t ok keys K q q.parent l least most

        rename_name : q.call ≡ kind.rename → q.entity < 64 → 1 ≤ q.name → q.name ≤ 65535 → f.kin ≡ name_taken t q (recorded_parent t q)
        unfolding asks_rights asks_way asks_name either
        rename_name c l least most =
            let same : o ≡ (entity_at t q.entity).parent = recorded (rw c) ∙ ap (λ (n : ℕ). (entity_at t n).parent) (P.entity.same l) in
            found.kin (rw c)
            ∙ kin_rename keys q.call p.entity o q.name c
            ∙ ap (λ (n : ℕ). name_by keys n q.name) same
            ∙ name_of t ok keys K q (entity_at t q.entity).parent (numbers t ok q.entity l).parent least most

        delete_child : q.call ≡ kind.delete → q.entity < 64 → is_root q.entity ≡ false → f.kin ≡ has_children t q
        unfolding asks_rights asks_way asks_name either
        delete_child c l other =
            found.kin (rw c)
            ∙ kin_delete keys q.call p.entity o q.name c
            ∙ ap (child_by keys) (P.entity.same l)
            ∙ child_of_lem t ok keys K q l other

        unmake_tied : q.call ≡ kind.unmake → q.role < 16 → f.kin ≡ role_tied t q
        unfolding asks_rights asks_way asks_name either
        unmake_tied c l =
            found.tied (rw c)
            ∙ asked_unmake t.roles q.call p.role p.junior c
            ∙ rw (P.role.same l) (tied_of t q ((formed_e t ok).role q.role l).juniors.small)

        join_cycle : q.call ≡ kind.join → q.role < 16 → q.junior < 16 → f.kin ≡ closes_cycle t q
        unfolding asks_rights asks_way asks_name either
        join_cycle c l k =
            found.tied (rw c)
            ∙ asked_join t.roles q.call p.role p.junior c
            ∙ rw (P.role.same l, P.junior.same k) (cycle_of t q l)

        unjoin_free : q.call ≡ kind.unjoin → f.kin ≡ false
        unfolding asks_rights asks_way asks_name either
        unjoin_free c = found.tied (rw c) ∙ asked_unjoin t.roles q.call p.role p.junior c

        pub seen_of : (v : View) → v ≡ view_at t p o f → Seen t q v
        seen_of v same =
            rw same
            (record {
              edition = refl;
              session = λ h. ap (session_at t) (P.seat.same h);
              user = λ h. ap (user_at t) (P.user.same h);
              live = λ h. ap (λ (n : ℕ). (role_at t n).live) (P.role.same h);
              users = λ h. ap (λ (n : ℕ). (role_at t n).users) (P.role.same h);
              juniors = λ h. ap (λ (n : ℕ). (role_at t n).juniors) (P.role.same h);
              alive = λ h. ap (λ (n : ℕ). (role_at t n).live) (P.junior.same h);
              entity = λ h. ap (entity_at t) (P.entity.same h);
              inside = λ h. (numbers t ok q.entity h).parent;
              parent = λ c h. ap (entity_at t) (named c ∙ P.parent.same h);
              outer = λ c h. ap (entity_at t) (recorded c ∙ ap (λ (n : ℕ). (entity_at t n).parent) (P.entity.same h));
              rights = rights;
              reached = reached_so;
              created = create_name;
              renamed = rename_name;
              deleted = delete_child;
              unmade = unmake_tied;
              joined = join_cycle;
              untied = unjoin_free;
            })
