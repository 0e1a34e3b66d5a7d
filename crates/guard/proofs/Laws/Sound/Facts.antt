-- Sound tables, as facts: what each session, role and entity has to be, over the lists that it speaks of, so that an edit
-- of one list leaves what is said over the others as it stands. The width is that of the labels, the
-- edition that of the tables.
--     SetOk                                             a set that a session or a role has
--     SessionOk, RoleOk, Inside, Placed, EntityOk       one record of each list
--     TiesOk                                            the ties between roles
--     Formed                                            the tables, but for what backs the opens
--     right_by, BackedBy, Backed                         .. and that: each open has the right behind it, of a role held
-- Assumes nothing.
use Prim.Native.Nat.{ℕ, ◌^◌, ◌<◌}
use mathlib.Core.Path.{◌≡◌}
use mathlib.Core.Bool.{Bool, true, false, not}
use mathlib.Core.List.{List, [], ◌∷◌}
use lib.Dec.{leb, eqb}
use lib.ListN.{length, get_or}
use Rattle.bitset.specs.Tests.{every, implies, some}
use Rattle.bitset.specs.Sets.{has}
use Rattle.guard.specs.Level.{session_level, role_level, entity_level, is_root, is_keeper}
use Rattle.guard.specs.Label.{label_in_range_in, dominates, same_label, no_label}
use Rattle.guard.specs.Tables.{edition1, no_entity, session_at, role_at, entity_at, container, read, write}
use Rattle.guard.specs.Chain.{climbs}
use Rattle.guard.specs.Sound.{entity_in_range_in, users_in_range_in, edition_in_range, is_root_record, is_mark_allowed, is_empty_entity}
use Rattle.guard.specs.declared.Label.{Label}
use Rattle.guard.specs.declared.Session.{Session}
use Rattle.guard.specs.declared.Role.{Role}
use Rattle.guard.specs.declared.Entity.{Entity}
use Rattle.guard.specs.declared.Tables.{Tables}
use Rattle.guard.proofs.Laws.Below.{Below}
pub use Rattle.guard.proofs.Laws.Juniors.{role_in, junior_in, gives_in, has_in}

-- ---- the records of a list
abbrev pub entity_in : List Entity → ℕ → Entity
entity_in entities e = get_or entities e no_entity

abbrev pub parent_in : List Entity → ℕ → ℕ
parent_in entities e = (entity_in entities e).parent

-- ---- what is open, or has rights on it, and what is a child
abbrev pub readable : ℕ → ℕ → Label → ℕ → Entity → Bool
readable edition s l e n = every (n.live ∷ implies (eqb edition edition1) (leb (session_level s) (entity_level e)) ∷ dominates l n.label ∷ [])

abbrev pub writable : ℕ → Label → ℕ → Entity → Bool
writable s l e n = every (n.live ∷ leb (entity_level e) (session_level s) ∷ same_label l n.label ∷ [])

abbrev pub grantable : ℕ → ℕ → Entity → Bool
grantable r e n = every (n.live ∷ leb (entity_level e) (role_level r) ∷ [])

abbrev pub child_of : ℕ → ℕ → Entity → Bool
child_of p f n = every (n.live ∷ not (is_root f) ∷ eqb n.parent p ∷ [])

-- n, at e, may lie in p, its parent's record
abbrev pub fits_in : ℕ → Entity → Entity → Bool
fits_in e n p =
    every
    (p.live
    ∷ eqb p.kind container
    ∷ eqb (entity_level n.parent) (entity_level e)
    ∷ dominates n.label p.label
    ∷ [])

-- ---- a set of w bits whose members are as Q asks, and which has none where its record is dead
pub record SetOk (w : ℕ) (live : Bool) (Q : ℕ → Bool) (set : ℕ) : Type 0 where
  pub small : set < 2 ^ w
  pub none : live ≡ false → set ≡ 0
  pub members : (i : ℕ) → i < w → has set i ≡ true → Q i ≡ true

-- ---- one record
pub record SessionOk (width edition : ℕ) (roles : List Role) (entities : List Entity) (s : ℕ) (r : Session) : Type 0 where
  pub user : r.user < 16
  pub label : label_in_range_in width r.label ≡ true
  pub empty : r.live ≡ false → (r.user ≡ 0) × (same_label r.label no_label ≡ true)
  pub held : SetOk 16 r.live (λ p. (role_in roles p).live) r.roles
  pub reading : SetOk 64 r.live (λ e. readable edition s r.label e (entity_in entities e)) r.reading
  pub writing : SetOk 64 r.live (λ e. writable s r.label e (entity_in entities e)) r.writing

pub record RoleOk (entities : List Entity) (r : ℕ) (p : Role) : Type 0 where
  pub keeper : is_keeper r ≡ true → p.live ≡ true
  pub users : SetOk 16 p.live (λ u. true) p.users
  pub juniors : SetOk 16 p.live (λ j. true) p.juniors
  pub reads : SetOk 64 p.live (λ e. grantable r e (entity_in entities e)) p.reads
  pub writes : SetOk 64 p.live (λ e. grantable r e (entity_in entities e)) p.writes
  pub executes : SetOk 64 p.live (λ e. grantable r e (entity_in entities e)) p.executes
  pub owns : SetOk 64 p.live (λ e. grantable r e (entity_in entities e)) p.owns

abbrev pub OwnName : List Entity → ℕ → Entity → Type 0
OwnName entities e n = (f : ℕ) → f < 64 → (f ≡ e → ⊥) → child_of n.parent f (entity_in entities f) ≡ true → eqb (entity_in entities f).name n.name ≡ false

-- where n, at e, lies
pub record Inside (entities : List Entity) (e : ℕ) (n : Entity) : Type 0 where
  pub parent : fits_in e n (entity_in entities n.parent) ≡ true
  pub chain : climbs (parent_in entities) (λ c. true) 16 e ≡ true

pub record Placed (entities : List Entity) (e : ℕ) (n : Entity) : Type 0 where
  pub named : leb 1 n.name ≡ true
  pub inside : Inside entities e n
  pub own_name : OwnName entities e n

pub record EntityOk (width : ℕ) (entities : List Entity) (e : ℕ) (n : Entity) : Type 0 where
  pub range : entity_in_range_in width n ≡ true
  pub root : is_root e ≡ true → is_root_record e n ≡ true
  pub placed : n.live ≡ true → is_root e ≡ false → Placed entities e n
  pub mark : is_mark_allowed n ≡ true
  pub empty : n.live ≡ false → is_empty_entity n ≡ true

-- the ties between roles
pub record TiesOk (roles : List Role) : Type 0 where
  pub joined : (r j : ℕ) → r < 16 → j < 16 → junior_in roles r j ≡ true
      → every ((role_in roles r).live ∷ (role_in roles j).live ∷ eqb (role_level j) (role_level r) ∷ []) ≡ true
  pub no_cycle : (r : ℕ) → r < 16 → Below (junior_in roles) r r → ⊥

pub record Formed (width : ℕ) (t : Tables) : Type 0 where
  pub edition : edition_in_range t.edition ≡ true
  pub users : users_in_range_in width t.users ≡ true
  pub many_sessions : length t.sessions ≡ 16
  pub many_roles : length t.roles ≡ 16
  pub many_entities : length t.entities ≡ 64
  pub session : (s : ℕ) → s < 16 → SessionOk width t.edition t.roles t.entities s (session_at t s)
  pub role : (r : ℕ) → r < 16 → RoleOk t.entities r (role_at t r)
  pub ties : TiesOk t.roles
  pub entity : (e : ℕ) → e < 64 → EntityOk width t.entities e (entity_at t e)

-- ---- what backs the opens
-- one of the roles held, of at least e's level, has the right
abbrev pub right_by : List Role → ℕ → ℕ → ℕ → Bool
right_by roles held right e = some 16 (λ r. every (leb (entity_level e) (role_level r) ∷ has held r ∷ has_in roles right e r ∷ []))

pub record BackedBy (roles : List Role) (s : Session) : Type 0 where
  pub reading : (e : ℕ) → e < 64 → has s.reading e ≡ true → right_by roles s.roles read e ≡ true
  pub writing : (e : ℕ) → e < 64 → has s.writing e ≡ true → right_by roles s.roles write e ≡ true

abbrev pub Backed : Tables → Type 0
Backed t = (s : ℕ) → s < 16 → BackedBy t.roles (session_at t s)
