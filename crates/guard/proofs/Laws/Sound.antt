-- Sound tables, read as facts (Facts), and with the paper's own chain of parents (Chains).
--     formed_e, backed_e, sound_i     the test `sound_in` says this, and no more
--     writing_level, parent_level     two of the facts, of the tables
-- Assumes nothing.
use Prim.Native.Nat.{ℕ, ◌^◌, ◌≤◌, ◌<◌}
use mathlib.Core.Path.{◌≡◌, refl, sym, ◌∙◌}
use mathlib.Core.Bool.{Bool, true, false, not}
use mathlib.Core.List.{List, [], ◌∷◌}
use lib.Dec.{eqb}
use borrow.Author.Tests.{eqb-true, eqb-false, leb-true, ltb-true, eq-eqb, ne_eqb, lt-ltb}
use Rattle.bitset.specs.Tests.{every, implies, all}
use Rattle.bitset.specs.Tests.Laws.{is_false, clash, not_of_true, not_of_false, of_not_true, of_not_false, every_i, every_e, every_at, implies_i, implies_e, all_i, all_e}
use Rattle.bitset.specs.Sets.{has}
use Rattle.guard.specs.Level.{session_level, entity_level, is_root}
use Rattle.guard.specs.Tables.{session_at, role_at, entity_at, read, write, is_writing, rights_of, rights_on, is_child}
use Rattle.guard.specs.Chain.{ends_at_root}
use Rattle.guard.specs.Sound.{session_in_range_in, role_in_range, fields_in_range_in, roots_as_said, keepers_as_said, has_own_name, is_placed, entities_placed, objects_unshared, is_empty_session, is_empty_role, dead_are_empty, dead_are_unused, rights_within, reading_within, writing_within, opens_backed, ties_join, none_below_itself, sound, sound_in}
use Rattle.guard.specs.declared.Session.{Session}
use Rattle.guard.specs.declared.Role.{Role}
use Rattle.guard.specs.declared.Entity.{Entity}
use Rattle.guard.specs.declared.Tables.{Tables}
use Rattle.guard.proofs.Laws.Rights.{rights_none, rights_zero}
use Rattle.guard.proofs.Laws.Below.{below_e, below_i}
use Rattle.guard.proofs.Laws.Told.{right_by_lem}
pub mod Facts
pub mod Chains
pub use Facts.*

-- ---- tests of what is dead
dead : (a b : Bool) → implies (not a) b ≡ true → a ≡ false → b ≡ true
dead a b h d = implies_e _ _ h (not_of_false a d)

used : (a b : Bool) → implies (not a) b ≡ true → b ≡ false → a ≡ true
used a b h k = of_not_false a (is_false (not a) (λ d. clash b (implies_e _ _ h d) k))

idle : (a b : Bool) → (b ≡ false → a ≡ true) → implies (not a) b ≡ true
unfolding implies
idle true b f = refl
idle false true f = refl
idle false false f = f refl

-- ---- from the test
set_e : (w : ℕ) (live : Bool) (Q : ℕ → Bool) (s : ℕ) → s < 2 ^ w → (live ≡ false → eqb s 0 ≡ true)
    → ((i : ℕ) → i < w → has s i ≡ true → Q i ≡ true) → SetOk w live Q s
set_e w live Q s small empty members = record { small = small; none = λ d. eqb-true s 0 (empty d); members = members }

opened : (live m a b : ℕ → Bool) → all 64 (λ e. implies (not (live e)) (not (m e))) ≡ true
    → all 64 (λ e. implies (m e) (every (a e ∷ b e ∷ []))) ≡ true
    → (e : ℕ) → e < 64 → m e ≡ true → every (live e ∷ a e ∷ b e ∷ []) ≡ true
opened live m a b h k e l o =
    let within = every_e _ (implies_e _ _ (all_e 64 _ k e l) o) in
    every_i _ (used (live e) (not (m e)) (all_e 64 _ h e l) (not_of_true _ o), within)

session_e : {width : ℕ} (t : Tables) → sound_in width t ≡ true → (s : ℕ) → s < 16 → SessionOk width t.edition t.roles t.entities s (session_at t s)
unfolding sound_in fields_in_range_in session_in_range_in is_empty_session dead_are_empty dead_are_unused reading_within writing_within
session_e t h s l =
    let r = session_at t s in
    let range = all_e 16 _ (every_at _ (every_at _ h 0) 2) s l in
    let empty : r.live ≡ false → is_empty_session r ≡ true = λ d. dead _ _ (all_e 16 _ (every_at _ (every_at _ h 5) 0) s l) d in
    let unused = every_at _ h 6 in
    record {
      user = ltb-true _ _ (every_at _ range 0);
      label = every_at _ range 1;
      empty = λ d. (eqb-true _ _ (every_at _ (empty d) 0), every_at _ (empty d) 1);
      held = set_e 16 _ _ _ (ltb-true _ _ (every_at _ range 2)) (λ d. every_at _ (empty d) 2)
          (λ p k m. used _ _ (all_e 16 _ (all_e 16 _ (every_at _ unused 3) s l) p k) (not_of_true _ m));
      reading = set_e 64 _ _ _ (ltb-true _ _ (every_at _ range 3)) (λ d. every_at _ (empty d) 3)
          (opened _ _ _ _ (all_e 16 _ (every_at _ unused 1) s l) (all_e 16 _ (every_at _ h 8) s l));
      writing = set_e 64 _ _ _ (ltb-true _ _ (every_at _ range 4)) (λ d. every_at _ (empty d) 4)
          (opened _ _ _ _ (all_e 16 _ (every_at _ unused 2) s l) (all_e 16 _ (every_at _ h 9) s l));
    }

-- a role has rights only on what it may have rights on
rights_e : (width : ℕ) (t : Tables) → sound_in width t ≡ true → (r e : ℕ) → r < 16 → e < 64 → (rights_on t r e ≡ 0 → ⊥) → grantable r e (entity_at t e) ≡ true
unfolding sound_in dead_are_unused rights_within
rights_e width t h r e l k ne =
    let some = ne_eqb (rights_on t r e) 0 ne in
    let live = used _ _ (all_e 64 _ (all_e 16 _ (every_at _ (every_at _ h 6) 0) r l) e k) some in
    every_i _ (live, (implies_e _ _ (all_e 64 _ (all_e 16 _ (every_at _ h 7) r l) e k) (not_of_false _ some), tt))

role_e : (width : ℕ) (t : Tables) → sound_in width t ≡ true → (r : ℕ) → r < 16 → RoleOk t.entities r (role_at t r)
unfolding sound_in fields_in_range_in role_in_range keepers_as_said is_empty_role dead_are_empty
role_e width t h r l =
    let p = role_at t r in
    let range = all_e 16 _ (every_at _ (every_at _ h 0) 4) r l in
    let empty : p.live ≡ false → is_empty_role p ≡ true = λ d. dead _ _ (all_e 16 _ (every_at _ (every_at _ h 5) 1) r l) d in
    record {
      keeper = λ k. implies_e _ _ (all_e 16 _ (every_at _ h 2) r l) k;
      users = set_e 16 _ _ _ (ltb-true _ _ (every_at _ range 0)) (λ d. every_at _ (empty d) 0) (λ u k m. refl);
      juniors = set_e 16 _ _ _ (ltb-true _ _ (every_at _ range 1)) (λ d. every_at _ (empty d) 1) (λ u k m. refl);
      reads = set_e 64 _ _ _ (ltb-true _ _ (every_at _ range 2)) (λ d. every_at _ (empty d) 2)
          (λ e k m. rights_e width t h r e l k (λ z. clash _ m (rights_zero p e z).0));
      writes = set_e 64 _ _ _ (ltb-true _ _ (every_at _ range 3)) (λ d. every_at _ (empty d) 3)
          (λ e k m. rights_e width t h r e l k (λ z. clash _ m (rights_zero p e z).1));
      executes = set_e 64 _ _ _ (ltb-true _ _ (every_at _ range 4)) (λ d. every_at _ (empty d) 4)
          (λ e k m. rights_e width t h r e l k (λ z. clash _ m (rights_zero p e z).2));
      owns = set_e 64 _ _ _ (ltb-true _ _ (every_at _ range 5)) (λ d. every_at _ (empty d) 5)
          (λ e k m. rights_e width t h r e l k (λ z. clash _ m (rights_zero p e z).3));
    }

entity_e : {width : ℕ} (t : Tables) → sound_in width t ≡ true → (e : ℕ) → e < 64 → EntityOk width t.entities e (entity_at t e)
unfolding sound_in fields_in_range_in roots_as_said entities_placed is_placed has_own_name is_child ends_at_root objects_unshared dead_are_empty
entity_e t h e l =
    let n = entity_at t e in
    record {
      range = all_e 64 _ (every_at _ (every_at _ h 0) 6) e l;
      root = λ k. implies_e _ _ (all_e 64 _ (every_at _ h 1) e l) k;
      placed = λ live other.
          let placed = implies_e _ _ (all_e 64 _ (every_at _ h 3) e l) (every_i _ (live, (not_of_false _ other, tt))) in
          record {
            named = every_at _ placed 0;
            inside = record {
              parent = every_i _ (every_at _ placed 1, (every_at _ placed 2, (every_at _ placed 3, (every_at _ placed 4, tt))));
              chain = every_at _ placed 6;
            };
            own_name = λ f k ne child.
                of_not_true _ (implies_e _ _ (all_e 64 _ (every_at _ placed 5) f k) (every_i _ (child, (not_of_false _ (ne_eqb f e ne), tt))));
          };
      mark = all_e 64 _ (every_at _ h 4) e l;
      empty = λ d. dead _ _ (all_e 64 _ (every_at _ (every_at _ h 5) 2) e l) d;
    }

ties_e : (width : ℕ) (t : Tables) → sound_in width t ≡ true → TiesOk t.roles
unfolding sound_in ties_join none_below_itself
ties_e width t h =
    record {
      joined = λ r j l k m. implies_e _ _ (all_e 16 _ (all_e 16 _ (every_at _ h 11) r l) j k) m;
      no_cycle = λ r l b. clash _ (below_i _ r r l b) (of_not_true _ (all_e 16 _ (every_at _ h 12) r l));
    }

pub formed_e : {width : ℕ} (t : Tables) → sound_in width t ≡ true → Formed width t
unfolding sound_in fields_in_range_in
formed_e t h =
    let fields = every_at _ h 0 in
    record {
      edition = every_at _ fields 7;
      users = every_at _ fields 0;
      many_sessions = eqb-true _ _ (every_at _ fields 1);
      many_roles = eqb-true _ _ (every_at _ fields 3);
      many_entities = eqb-true _ _ (every_at _ fields 5);
      session = session_e t h;
      role = role_e _ t h;
      ties = ties_e _ t h;
      entity = entity_e t h;
    }

-- each open has the right behind it
pub backed_e : (width : ℕ) (t : Tables) → sound_in width t ≡ true → Backed t
unfolding sound_in opens_backed
backed_e width t h s l =
    let each = all_e 64 _ (all_e 16 _ (every_at _ h 10) s l) in
    record {
      reading = λ e k m. sym (right_by_lem t s read e) ∙ implies_e _ _ (every_at _ (each e k) 0) m;
      writing = λ e k m. sym (right_by_lem t s write e) ∙ implies_e _ _ (every_at _ (each e k) 1) m;
    }

-- ---- and back

-- the facts for a list of tests, one after the other
infixr 30 ◌also◌
data AllMet : List Bool → Type 0 where
  no_more : AllMet []
  ◌also◌ : {b : Bool} {bs : List Bool} → b ≡ true → AllMet bs → AllMet (b ∷ bs)

every_of : (l : List Bool) → AllMet l → every l ≡ true
every_of l no_more = every_i _ tt
every_of l (p also ps) = every_i _ (p, every_e _ (every_of _ ps))

-- what is open for reading, or for writing
open_i : (live m a b : ℕ → Bool) → ((e : ℕ) → e < 64 → m e ≡ true → every (live e ∷ a e ∷ b e ∷ []) ≡ true)
    → (all 64 (λ e. implies (not (live e)) (not (m e))) ≡ true) × (all 64 (λ e. implies (m e) (every (a e ∷ b e ∷ []))) ≡ true)
open_i live m a b f = (
  all_i 64 _ (λ e l. idle _ _ (λ o. every_at _ (f e l (of_not_false _ o)) 0)),
  all_i 64 _ (λ e l. implies_i _ _ (λ o. every_i _ (every_e _ (f e l o)).1)),
)

module _ {width edition : ℕ} (roles : List Role) (es : List Entity) (s : ℕ) (r : Session) (ok : SessionOk width edition roles es s r) where
  session_range : session_in_range_in width r ≡ true
  unfolding session_in_range_in
  session_range =
      every_of _
      (lt-ltb _ _ ok.user
      also ok.label
      also lt-ltb _ _ ok.held.small
      also lt-ltb _ _ ok.reading.small
      also lt-ltb _ _ ok.writing.small
      also no_more)

  session_empty : r.live ≡ false → is_empty_session r ≡ true
  unfolding is_empty_session
  session_empty d =
      every_of _
      (eq-eqb _ _ (ok.empty d).0
      also (ok.empty d).1
      also eq-eqb _ _ (ok.held.none d)
      also eq-eqb _ _ (ok.reading.none d)
      also eq-eqb _ _ (ok.writing.none d)
      also no_more)

module _ (es : List Entity) (r : ℕ) (p : Role) (ok : RoleOk es r p) where
  role_range : role_in_range p ≡ true
  unfolding role_in_range
  role_range =
      every_of _
      (lt-ltb _ _ ok.users.small
      also lt-ltb _ _ ok.juniors.small
      also lt-ltb _ _ ok.reads.small
      also lt-ltb _ _ ok.writes.small
      also lt-ltb _ _ ok.executes.small
      also lt-ltb _ _ ok.owns.small
      also no_more)

  role_empty : p.live ≡ false → is_empty_role p ≡ true
  unfolding is_empty_role
  role_empty d =
      every_of _
      (eq-eqb _ _ (ok.users.none d)
      also eq-eqb _ _ (ok.juniors.none d)
      also eq-eqb _ _ (ok.reads.none d)
      also eq-eqb _ _ (ok.writes.none d)
      also eq-eqb _ _ (ok.executes.none d)
      also eq-eqb _ _ (ok.owns.none d)
      also no_more)

  -- an entity with rights on it is one that r may have rights on
  role_grantable : (e : ℕ) → e < 64 → eqb (rights_of p e) 0 ≡ false → grantable r e (entity_in es e) ≡ true
  role_grantable e l some =
      of_not_false _ (is_false _ (λ no.
      let out : (s : ℕ) → SetOk 64 p.live (λ f. grantable r f (entity_in es f)) s → has s e ≡ false = λ s set.
      is_false (has s e) (λ m. clash _ (set.members e l m) (of_not_true _ no)) in
      eqb-false _ 0 some (rights_none p e (out _ ok.reads) (out _ ok.writes) (out _ ok.executes) (out _ ok.owns))))

placed_i : (t : Tables) (e : ℕ) → Placed t.entities e (entity_at t e) → is_placed t e ≡ true
unfolding is_placed has_own_name is_child ends_at_root
placed_i t e ok =
    let parent = every_at _ ok.inside.parent in
    every_of _ (ok.named also parent 0 also parent 1 also parent 2 also parent 3 also own also ok.inside.chain also no_more)
  where
    own : has_own_name t e ≡ true
    own = all_i 64 _ (λ f l. implies_i _ _ (λ h. not_of_false _ (ok.own_name f l (eqb-false f e (of_not_true _ (every_at _ h 1))) (every_at _ h 0))))

pub sound_i : {width : ℕ} (t : Tables) → Formed width t → Backed t → sound_in width t ≡ true
unfolding sound_in fields_in_range_in roots_as_said keepers_as_said entities_placed objects_unshared dead_are_empty dead_are_unused rights_within reading_within writing_within opens_backed ties_join none_below_itself
sound_i {width} t ok backs =
    every_of _
    (fields
    also all_i 64 _ (λ e l. implies_i _ _ (ok.entity e l).root)
    also all_i 16 _ (λ r l. implies_i _ _ (ok.role r l).keeper)
    also all_i 64 _ (λ e l. implies_i _ _ (λ h. placed_i t e ((ok.entity e l).placed (every_at _ h 0) (of_not_true _ (every_at _ h 1)))))
    also all_i 64 _ (λ e l. (ok.entity e l).mark)
    also empty
    also unused
    also all_i 16 _ (λ r l. all_i 64 _ (λ e k. implies_i _ _ (λ some. every_at _ (granted r e l k (of_not_true _ some)) 1)))
    also all_i 16 _ (λ s l. (open_i _ _ _ _ (ok.session s l).reading.members).1)
    also all_i 16 _ (λ s l. (open_i _ _ _ _ (ok.session s l).writing.members).1)
    also all_i 16 _ (λ s l. all_i 64 _ (λ e k.
    every_of _
    (implies_i _ _ (λ m. right_by_lem t s read e ∙ (backs s l).reading e k m)
    also implies_i _ _ (λ m. right_by_lem t s write e ∙ (backs s l).writing e k m)
    also no_more)))
    also all_i 16 _ (λ r l. all_i 16 _ (λ j k. implies_i _ _ (ok.ties.joined r j l k)))
    also all_i 16 _ (λ r l. not_of_false _ (is_false _ (λ b. ok.ties.no_cycle r l (below_e _ r r b))))
    also no_more)
  where
    fields : fields_in_range_in width t ≡ true
    fields =
        every_of _
        (ok.users
        also eq-eqb _ _ ok.many_sessions
        also all_i 16 _ (λ s l. session_range _ _ s _ (ok.session s l))
        also eq-eqb _ _ ok.many_roles
        also all_i 16 _ (λ r l. role_range _ r _ (ok.role r l))
        also eq-eqb _ _ ok.many_entities
        also all_i 64 _ (λ e l. (ok.entity e l).range)
        also ok.edition
        also no_more)

    empty : dead_are_empty t ≡ true
    empty =
        every_of _
        (all_i 16 _ (λ s l. implies_i _ _ (λ d. session_empty _ _ s _ (ok.session s l) (of_not_true _ d)))
        also all_i 16 _ (λ r l. implies_i _ _ (λ d. role_empty _ r _ (ok.role r l) (of_not_true _ d)))
        also all_i 64 _ (λ e l. implies_i _ _ (λ d. (ok.entity e l).empty (of_not_true _ d)))
        also no_more)

    granted : (r e : ℕ) → r < 16 → e < 64 → eqb (rights_on t r e) 0 ≡ false → grantable r e (entity_at t e) ≡ true
    granted r e l k = role_grantable _ r _ (ok.role r l) e k

    unused : dead_are_unused t ≡ true
    unused =
        every_of _
        (all_i 16 _ (λ r l. all_i 64 _ (λ e k. idle _ _ (λ some. every_at _ (granted r e l k some) 0)))
        also all_i 16 _ (λ s l. (open_i _ _ _ _ (ok.session s l).reading.members).0)
        also all_i 16 _ (λ s l. (open_i _ _ _ _ (ok.session s l).writing.members).0)
        also all_i 16 _ (λ s l. all_i 16 _ (λ r k. idle _ _ (λ m. (ok.session s l).held.members r k (of_not_false _ m))))
        also no_more)

-- ---- of the tables
pub writing_level : (t : Tables) → sound t ≡ true → (s e : ℕ) → s < 16 → e < 64 → is_writing t s e ≡ true → entity_level e ≤ session_level s
writing_level t h s e k l w = leb-true _ _ (every_at _ ((session_e t h s k).writing.members e l w) 1)

pub parent_level : (t : Tables) → sound t ≡ true → (e : ℕ) → e < 64 → (entity_at t e).live ≡ true → is_root e ≡ false
    → (entity_level (entity_at t e).parent ≡ entity_level e) × ((entity_at t (entity_at t e).parent).live ≡ true)
parent_level t h e l live other =
    let parent = ((entity_e t h e l).placed live other).inside.parent in
    (eqb-true _ _ (every_at _ parent 2), every_at _ parent 0)
