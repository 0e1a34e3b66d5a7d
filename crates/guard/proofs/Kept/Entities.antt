-- Tables stay formed where one entity is replaced, by what the edit leaves of it and of its line: either its being live, its kind,
-- parent and label are kept, or nobody has it open or rights on it; every live entity's parent stays as it was; and
-- where the new record is live, no other child of its parent has its name.
--     shape, Stays, others_stay       what an entity's place rests on
--     root_parent                     a root's parent is itself
--     Kin, parent_kin, kin            the ancestors of a live entity are live and of its level
--     inside_kept                     an entity that stays, and whose line stays, lies where it lay
--     Unused, dead_unused             nobody has it open or rights on it
--     New, entity_kept                the edit
--     same_shape_kept                 .. where the shape stays: of the name and the mark alone
-- Assumes nothing.
use Prim.Native.Nat.{ℕ, zero, suc, ◌<◌}
use mathlib.Core.Path.{◌≡◌, refl, sym, ap, ◌∙◌}
use mathlib.Core.Bool.{Bool, true, false}
use mathlib.Core.Logic.{◌⊎◌, inl, inr}
use lib.Dec.{leb, eqb}
use lib.ListN.{set, length-set}
use lib.Seq.{get_or-set_other}
use borrow.Author.Tests.{eqb-true, eqb-false, ltb-true, eq-eqb, ne_eqb}
use Rattle.bitset.specs.Tests.Laws.{decide, clash, is_false, not_of_false, of_not_true, every_i, every_at}
use Rattle.bitset.specs.Sets.{has}
use Rattle.guard.specs.Level.{entity_level, is_root}
use Rattle.guard.specs.Tables.{no_entity, session_at, role_at, entity_at, rights_on}
use Rattle.guard.specs.Chain.{parent_of}
use Rattle.guard.specs.Sound.{entity_in_range_in, is_root_record, is_mark_allowed, is_empty_entity}
use Rattle.guard.specs.Edits.{with_entities}
use Rattle.guard.specs.declared.Entity.{Entity}
use Rattle.guard.specs.declared.Tables.{Tables}
use Rattle.guard.proofs.Laws.Chain.{ancestor, climbs_same}
use Rattle.guard.proofs.Laws.Rights.{rights_none, rights_zero}
use Rattle.guard.proofs.Laws.Sound.{entity_in, readable, writable, grantable, child_of, fits_in, SetOk, SessionOk, RoleOk, OwnName, Inside, EntityOk, Formed}
use Rattle.guard.proofs.Kept.EachStays.{set_each, seen_ok}

-- all of an entity but its name and its mark
abbrev pub shape : Entity → Entity
shape n = record { live = n.live; kind = n.kind; parent = n.parent; name = 0; label = n.label; shared = 0 }

-- with n at e, f keeps its shape
abbrev pub Stays : Tables → ℕ → Entity → ℕ → Type 0
Stays t e n f = shape (entity_in (set t.entities e n) f) ≡ shape (entity_at t f)

pub others_stay : (t : Tables) (e : ℕ) (n : Entity) (f : ℕ) → (f ≡ e → ⊥) → Stays t e n f
others_stay t e n f ne = ap shape (get_or-set_other t.entities e f n no_entity ne)

-- what an entity a above f is
pub record Kin (t : Tables) (f a : ℕ) : Type 0 where
  pub below : a < 64
  pub live : (entity_at t a).live ≡ true
  pub level : entity_level a ≡ entity_level f

module _ {width : ℕ} (t : Tables) (ok : Formed width t) where
  pub root_parent : (f : ℕ) → f < 64 → is_root f ≡ true → parent_of t f ≡ f
  unfolding is_root_record
  root_parent f l root = eqb-true _ _ (every_at _ ((ok.entity f l).root root) 4)

  pub parent_kin : (f : ℕ) → f < 64 → (entity_at t f).live ≡ true → Kin t f (parent_of t f)
  unfolding entity_in_range_in
  parent_kin f l live = go (decide (is_root f))
    where
      small : parent_of t f < 64
      small = ltb-true _ _ (every_at _ (ok.entity f l).range 1)

      go : (is_root f ≡ true) ⊎ (is_root f ≡ false) → Kin t f (parent_of t f)
      go (inl root) =
          let self = root_parent f l root in
          record { below = small; live = rw self live; level = rw self refl }
      go (inr other) =
          let parent = ((ok.entity f l).placed live other).inside.parent in
          record { below = small; live = every_at _ parent 0; level = eqb-true _ _ (every_at _ parent 2) }

  -- the ancestors of f, with what each hands on to its parent
  pub kin : (Q : ℕ → Type 0) → ((f : ℕ) → f < 64 → (entity_at t f).live ≡ true → Q f → Q (parent_of t f))
      → (k f : ℕ) → f < 64 → (entity_at t f).live ≡ true → Q f → Kin t f (ancestor (parent_of t) k f) × Q (ancestor (parent_of t) k f)
  kin Q step zero f l live q = (record { below = l; live = live; level = refl }, q)
  kin Q step (suc k) f l live q =
      let up = parent_kin f l live in
      let (a, b) = kin Q step k (parent_of t f) up.below up.live (step f l live q) in
      (record { below = a.below; live = a.live; level = a.level ∙ up.level }, b)

-- what is asked of n, to stand at e: all but its name's being free is asked in the new list
pub record New (width : ℕ) (t : Tables) (e : ℕ) (n : Entity) : Type 0 where
  pub range : entity_in_range_in width n ≡ true
  pub root : is_root e ≡ true → is_root_record e n ≡ true
  pub mark : is_mark_allowed n ≡ true
  pub empty : n.live ≡ false → is_empty_entity n ≡ true
  pub placed : n.live ≡ true → is_root e ≡ false → (leb 1 n.name ≡ true) × Inside (set t.entities e n) e n × OwnName t.entities e n

-- ---- the entities, with n at e
module _ {width : ℕ} (t : Tables) (ok : Formed width t) (e : ℕ) (n : Entity)
    (stay : (f : ℕ) → f < 64 → (entity_at t f).live ≡ true → Stays t e n f → Stays t e n (parent_of t f)) where
  pub inside_kept : (f : ℕ) → f < 64 → (entity_at t f).live ≡ true → Stays t e n f → Inside t.entities f (entity_at t f)
      → (n' : Entity) → shape n' ≡ shape (entity_at t f) → Inside (set t.entities e n) f n'
  inside_kept f l live s old n' same =
      record {
        parent =
            ap (λ (a : Entity). fits_in f a (entity_in (set t.entities e n) a.parent)) same
            ∙ ap (λ (p : Entity). fits_in f (entity_at t f) p) (stay f l live s)
            ∙ old.parent;
        chain =
            climbs_same (parent_of t) _ 16 f (λ k. ap (λ (a : Entity). a.parent) (kin t ok (Stays t e n) stay k f l live s).1)
            ∙ old.chain;
      }

  -- a sibling in the new list is one in the old, or e
  named : (f : ℕ) (m : Entity) → OwnName t.entities f m
      → ((e ≡ f → ⊥) → child_of m.parent e n ≡ true → eqb n.name m.name ≡ false) → OwnName (set t.entities e n) f m
  named f m own here =
      set_each (λ g b. (g ≡ f → ⊥) → child_of m.parent g b ≡ true → eqb b.name m.name ≡ false) 64 t.entities no_entity
      ok.many_entities e n (λ g l ne. own g l) (λ l. here)

  entities_kept : New width t e n → (f : ℕ) → f < 64 → EntityOk width (set t.entities e n) f (entity_in (set t.entities e n) f)
  entities_kept new = set_each (EntityOk width (set t.entities e n)) 64 t.entities no_entity ok.many_entities e n other (λ l. itself)
    where
      itself : EntityOk width (set t.entities e n) e n
      itself =
          record {
            range = new.range;
            root = new.root;
            placed = λ live other.
                let (name, inside, free) = new.placed live other in
                record { named = name; inside = inside; own_name = named e n free (λ ne. absurd (ne refl)) };
            mark = new.mark;
            empty = new.empty;
          }

      -- f, where e is a child of f's parent too
      apart : (f : ℕ) → f < 64 → (f ≡ e → ⊥) → (entity_at t f).live ≡ true → is_root f ≡ false
          → child_of (entity_at t f).parent e n ≡ true → eqb n.name (entity_at t f).name ≡ false
      apart f l ne live not_root child =
          let (_, _, free) = new.placed (every_at _ child 0) (of_not_true _ (every_at _ child 1)) in
          let parent = sym (eqb-true n.parent (parent_of t f) (every_at _ child 2)) in
          let taken = free f l ne (every_i _ (live, (not_of_false _ not_root, (eq-eqb (parent_of t f) n.parent parent, tt)))) in
          ne_eqb n.name (entity_at t f).name (λ same. eqb-false _ n.name taken (sym same))

      other : (f : ℕ) → f < 64 → (f ≡ e → ⊥) → EntityOk width (set t.entities e n) f (entity_at t f)
      other f l ne =
          let old = ok.entity f l in
          record {
            range = old.range;
            root = old.root;
            placed = λ live not_root.
                let place = old.placed live not_root in
                record {
                  named = place.named;
                  inside = inside_kept f l live (others_stay t e n f ne) place.inside (entity_at t f) refl;
                  own_name = named f (entity_at t f) place.own_name (λ _. apart f l ne live not_root);
                };
            mark = old.mark;
            empty = old.empty;
          }

-- ---- the tables, with n at e
-- nobody has e open or rights on it
pub record Unused (t : Tables) (e : ℕ) : Type 0 where
  pub reading : (s : ℕ) → s < 16 → has (session_at t s).reading e ≡ false
  pub writing : (s : ℕ) → s < 16 → has (session_at t s).writing e ≡ false
  pub rights : (r : ℕ) → r < 16 → rights_on t r e ≡ 0

pub dead_unused : {width : ℕ} (t : Tables) → Formed width t → (e : ℕ) → e < 64 → (entity_at t e).live ≡ false → Unused t e
dead_unused t ok e l dead =
    record {
      reading = λ s k. is_false _ (λ m. clash _ (every_at _ ((ok.session s k).reading.members e l m) 0) dead);
      writing = λ s k. is_false _ (λ m. clash _ (every_at _ ((ok.session s k).writing.members e l m) 0) dead);
      rights = λ r k.
          let out : (set : ℕ) → SetOk 64 (role_at t r).live (λ f. grantable r f (entity_at t f)) set → has set e ≡ false = λ set role.
          is_false _ (λ m. clash _ (every_at _ (role.members e l m) 0) dead) in
          let role = ok.role r k in
          rights_none _ e (out _ role.reads) (out _ role.writes) (out _ role.executes) (out _ role.owns);
    }

pub entity_kept : {width : ℕ} (t : Tables) (e : ℕ) (n : Entity) → Formed width t
    → (shape n ≡ shape (entity_at t e)) ⊎ Unused t e
    → ((f : ℕ) → f < 64 → (entity_at t f).live ≡ true → Stays t e n f → Stays t e n (parent_of t f)) → New width t e n
    → Formed width (with_entities t (set t.entities e n))
entity_kept {width} t e n ok way stay new =
    record {
      edition = ok.edition;
      users = ok.users;
      many_sessions = ok.many_sessions;
      many_roles = ok.many_roles;
      many_entities = length-set t.entities e n ∙ ok.many_entities;
      session = session;
      ties = ok.ties;
      role = role;
      entity = entities_kept t ok e n stay new;
    }
  where
    -- what was asked of the old record where it was used is so of the new one
    kept : (P : Entity → Bool) (uses : Bool) → (Unused t e → uses ≡ false) → (shape n ≡ shape (entity_at t e)) ⊎ Unused t e
        → uses ≡ true → P (shape (entity_at t e)) ≡ true → P (shape n) ≡ true
    kept P uses none (inl same) u p = ap P same ∙ p
    kept P uses none (inr unused) u p = absurd (clash uses u (none unused))

    session : (s : ℕ) → s < 16 → SessionOk width t.edition t.roles (set t.entities e n) s (session_at t s)
    session s l =
        let old = ok.session s l in
        let label = (session_at t s).label in
        record {
          user = old.user;
          label = old.label;
          empty = old.empty;
          held = old.held;
          reading = seen_ok 64 _ (readable t.edition s label) _ t.entities no_entity e n ok.many_entities old.reading
              (kept (readable t.edition s label e) _ (λ none. none.reading s l) way);
          writing = seen_ok 64 _ (writable s label) _ t.entities no_entity e n ok.many_entities old.writing
              (kept (writable s label e) _ (λ none. none.writing s l) way);
        }

    role : (r : ℕ) → r < 16 → RoleOk (set t.entities e n) r (role_at t r)
    role r l =
        let old = ok.role r l in
        let none : Unused t e → rights_on t r e ≡ 0 = λ unused. unused.rights r l in
        record {
          keeper = old.keeper;
          users = old.users;
          juniors = old.juniors;
          reads = seen_ok 64 _ (grantable r) _ t.entities no_entity e n ok.many_entities old.reads
              (kept (grantable r e) _ (λ unused. (rights_zero _ e (none unused)).0) way);
          writes = seen_ok 64 _ (grantable r) _ t.entities no_entity e n ok.many_entities old.writes
              (kept (grantable r e) _ (λ unused. (rights_zero _ e (none unused)).1) way);
          executes = seen_ok 64 _ (grantable r) _ t.entities no_entity e n ok.many_entities old.executes
              (kept (grantable r e) _ (λ unused. (rights_zero _ e (none unused)).2) way);
          owns = seen_ok 64 _ (grantable r) _ t.entities no_entity e n ok.many_entities old.owns
              (kept (grantable r e) _ (λ unused. (rights_zero _ e (none unused)).3) way);
        }

-- ---- the shape stays
pub same_shape_kept : (width : ℕ) (t : Tables) (e : ℕ) (n : Entity) → Formed width t → e < 64 → shape n ≡ shape (entity_at t e)
    → (entity_at t e).live ≡ true → entity_in_range_in width n ≡ true → (is_root e ≡ true → is_root_record e n ≡ true) → is_mark_allowed n ≡ true
    → (is_root e ≡ false → (leb 1 n.name ≡ true) × OwnName t.entities e n)
    → Formed width (with_entities t (set t.entities e n))
same_shape_kept width t e n ok l same live range root mark named =
    entity_kept t e n ok (inl same) stay
    (record {
      range = range;
      root = root;
      mark = mark;
      empty = λ dead. absurd (clash _ (ap (λ (a : Entity). a.live) same ∙ live) dead);
      placed = λ alive other.
          let old = ((ok.entity e l).placed live other).inside in
          ((named other).0, inside_kept t ok e n stay e l live (stays e l) old n same, (named other).1);
    })
  where
    stays : (f : ℕ) → f < 64 → Stays t e n f
    stays = set_each (λ f a. shape a ≡ shape (entity_at t f)) 64 t.entities no_entity ok.many_entities e n (λ f k ne. refl) (λ k. same)

    stay : (f : ℕ) → f < 64 → (entity_at t f).live ≡ true → Stays t e n f → Stays t e n (parent_of t f)
    stay f k alive s = stays (parent_of t f) (parent_kin t ok f k alive).below
