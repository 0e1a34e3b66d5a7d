-- What the code of `is_sound` tests, in the form in which it computes it. No part of document 01: the contract of
-- `is_sound` is `sound` alone, and proofs/Soundness shows that these tests together are `sound`.
use Rattle.std.specs.Prelude.{ℕ, ◌+◌, ◌*◌, ◌/◌, ◌%◌, ◌^◌, Bool, true, not, cond, List, [], ◌∷◌, leb, ltb, eqb, get_or, filter}
use Rattle.std.specs.List.{range_with_len}
use Rattle.bitset.specs.Tests.{every, either, implies, all}
use Rattle.bitset.specs.Sets.{has, contains, join}
use Rattle.guard.specs.Level.{role_level, entity_level, is_root, is_keeper}
use Rattle.guard.specs.Label.{dominates}
use Rattle.guard.specs.Tables.{edition1, container, shared_mark}
use Rattle.guard.specs.Chain.{climbs}
use Rattle.guard.specs.Sound.{is_root_record, is_mark_allowed, is_empty_entity, is_empty_session}
use Rattle.guard.specs.Private.InForce.{session_in_range, entity_in_range}
use Rattle.guard.specs.declared.Label.{Label}
use Rattle.guard.specs.declared.Session.{Session}
use Rattle.guard.specs.declared.Role.{Role}
use Rattle.guard.specs.declared.Entity.{Entity}

-- ---- an entity n at e, where p is its parent's record

abbrev pub fits : ℕ → Entity → Entity → Bool
fits e n p =
    every
    (p.live
    ∷ eqb p.kind container
    ∷ eqb (entity_level n.parent) (entity_level e)
    ∷ dominates n.label p.label
    ∷ [])

-- in its ranges, and its mark as its kind allows
abbrev pub entity_fits : Entity → Bool
entity_fits n = every (entity_in_range n ∷ is_mark_allowed n ∷ [])

abbrev pub entity_test : ℕ → Entity → Entity → Bool
entity_test e n p =
    cond n.live
    (cond (is_root e) (every (is_root_record e n ∷ leb n.shared shared_mark ∷ []))
    (every (entity_fits n ∷ leb 1 n.name ∷ fits e n p ∷ [])))
    (every (not (is_root e) ∷ is_empty_entity n ∷ []))

-- ---- the tree, by a key for each entity: its parent above its name; 256 stands for the parent of what is not live

abbrev pub key_of : Entity → ℕ
key_of n = cond n.live (n.parent * 65536 + n.name) 16777216

-- e has no name, or no other entity of its level has its key
abbrev pub own_key : List ℕ → ℕ → Bool
own_key keys e =
    either (eqb (get_or keys e 0 % 65536) 0)
    (all 16 (λ m. implies (eqb (get_or keys (e / 16 * 16 + m) 0) (get_or keys e 0)) (eqb (e / 16 * 16 + m) e)))

abbrev pub ends : (ℕ → ℕ) → ℕ → ℕ → Bool
ends parent n e = climbs parent (λ c. true) n e

abbrev pub parent_by_key : List ℕ → ℕ → ℕ
parent_by_key keys e = get_or keys e 0 / 65536 % 64

-- ---- a role p at r, by the entities on which it may have rights

-- e is live
abbrev pub live_by_key : List ℕ → ℕ → Bool
live_by_key keys e = ltb (get_or keys e 0) 16777216

-- e is one of those that are live, and of at most the level of r
abbrev pub grantable_in : ℕ → ℕ → ℕ → Bool
grantable_in live r e = every (has live e ∷ leb (entity_level e) (role_level r) ∷ [])

-- all entities on which p has a right
abbrev pub rights_set : Role → ℕ
rights_set p = join (join (join p.reads p.writes) p.executes) p.owns

-- each member of the set is as f asks
abbrev pub members : (ℕ → Bool) → ℕ → Bool
members f set = all 64 (λ e. implies (has set e) (f e))

-- the members of the set, lowest first
unfoldable pub listed : ℕ → List ℕ
listed set = filter (has set) (range_with_len 0 64)

abbrev pub role_test : (ℕ → Bool) → ℕ → Role → Bool
role_test grantable r p =
    every
    (ltb p.users (2 ^ 16)
    ∷ ltb p.juniors (2 ^ 16)
    ∷ ltb (rights_set p) (2 ^ 64)
    ∷ either p.live (every (not (is_keeper r) ∷ eqb p.users 0 ∷ eqb p.juniors 0 ∷ []))
    ∷ members (λ e. every (p.live ∷ grantable e ∷ [])) (rights_set p)
    ∷ [])

-- ---- a session s at a level, by the label of each entity as one number, above all for what is not live

abbrev pub packed_label : Label → ℕ
packed_label a = a.grade * 65536 + a.cats

abbrev pub label_number : Entity → ℕ
label_number n = cond n.live (packed_label n.label) 16777216

abbrev pub dominated : List ℕ → Label → ℕ → Bool
dominated labels a e = every (leb (get_or labels e 0) (a.grade * 65536 + 65535) ∷ contains a.cats (get_or labels e 0 % 65536) ∷ [])

abbrev pub open_levels : ℕ → ℕ → Session → Bool
open_levels edition level s =
    every
    (implies (eqb edition edition1) (members (λ e. leb level (entity_level e)) s.reading)
    ∷ members (λ e. leb (entity_level e) level) s.writing
    ∷ [])

abbrev pub open_labels : List ℕ → Session → Bool
open_labels labels s =
    every
    (members (dominated labels s.label) s.reading
    ∷ members (λ e. eqb (get_or labels e 0) (packed_label s.label)) s.writing
    ∷ [])

abbrev pub session_test : List ℕ → ℕ → ℕ → ℕ → Session → Bool
session_test labels roles edition level s =
    cond s.live
    (every (session_in_range s ∷ contains roles s.roles ∷ open_levels edition level s ∷ open_labels labels s ∷ []))
    (is_empty_session s)
