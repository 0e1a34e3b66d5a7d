-- Tables are sound when all of this holds.
use Rattle.std.specs.Prelude.{ℕ, ◌^◌, Bool, not, List, [], ◌∷◌, leb, ltb, eqb, length, get_or}
use Rattle.bitset.specs.Tests.{every, implies, all}
use Rattle.guard.specs.Level.{user_count, session_count, role_count, entity_count, top_level, session_level, role_level, entity_level, is_root, is_keeper}
use Rattle.guard.specs.Label.{all_categories, label_in_range_in, dominates, same_label, no_label}
use Rattle.guard.specs.Tables.{edition1, edition2, in_edition1, no_user, session_at, role_at, entity_at, object, container, shared_mark, read, write, holds, is_reading, is_writing, is_junior, is_below, rights_on, has_right, is_child}
use Rattle.guard.specs.Chain.{ends_at_root}
use Rattle.guard.specs.declared.User.{User}
use Rattle.guard.specs.declared.Session.{Session}
use Rattle.guard.specs.declared.Role.{Role}
use Rattle.guard.specs.declared.Entity.{Entity}
use Rattle.guard.specs.declared.Tables.{Tables}

-- ---- Every field is in range, ..
unfoldable pub user_in_range_in : ℕ → User → Bool
user_in_range_in width u = every (leb u.ceiling top_level ∷ label_in_range_in width u.clearance ∷ [])

unfoldable pub session_in_range_in : ℕ → Session → Bool
session_in_range_in width s =
    every
    (ltb s.user user_count
    ∷ label_in_range_in width s.label
    ∷ ltb s.roles (2 ^ role_count)
    ∷ ltb s.reading (2 ^ entity_count)
    ∷ ltb s.writing (2 ^ entity_count)
    ∷ [])

unfoldable pub role_in_range : Role → Bool
role_in_range r =
    every
    (ltb r.users (2 ^ user_count)
    ∷ ltb r.juniors (2 ^ role_count)
    ∷ ltb r.reads (2 ^ entity_count)
    ∷ ltb r.writes (2 ^ entity_count)
    ∷ ltb r.executes (2 ^ entity_count)
    ∷ ltb r.owns (2 ^ entity_count)
    ∷ [])

-- name (1 to 65,535): 0 for roots and for what is not live
abbrev pub top_name : ℕ
top_name = 65535

unfoldable pub entity_in_range_in : ℕ → Entity → Bool
entity_in_range_in width e =
    every
    (leb e.kind container
    ∷ ltb e.parent entity_count
    ∷ leb e.name top_name
    ∷ label_in_range_in width e.label
    ∷ leb e.shared shared_mark
    ∷ [])

unfoldable pub users_in_range_in : ℕ → List User → Bool
users_in_range_in width us = every (eqb (length us) user_count ∷ all user_count (λ u. user_in_range_in width (get_or us u no_user)) ∷ [])

-- an edition other than 1 or 2 gives 2 when building and 1 afterwards
unfoldable pub edition_in_range : ℕ → Bool
edition_in_range edition = every (leb edition1 edition ∷ leb edition edition2 ∷ [])

-- a list longer or shorter than the tables hold is out of range too
unfoldable pub fields_in_range_in : ℕ → Tables → Bool
fields_in_range_in width t =
    every
    (users_in_range_in width t.users
    ∷ eqb (length t.sessions) session_count
    ∷ all session_count (λ s. session_in_range_in width (session_at t s))
    ∷ eqb (length t.roles) role_count
    ∷ all role_count (λ r. role_in_range (role_at t r))
    ∷ eqb (length t.entities) entity_count
    ∷ all entity_count (λ e. entity_in_range_in width (entity_at t e))
    ∷ edition_in_range t.edition
    ∷ [])

-- .. and roots and keepers are as said: the roots are live containers, label 0/0 (grade/categories), name 0, each its
-- own parent; the keepers are always live.
unfoldable pub is_root_record : ℕ → Entity → Bool
is_root_record e r =
    every (r.live ∷ eqb r.kind container ∷ same_label r.label no_label ∷ eqb r.name 0 ∷ eqb r.parent e ∷ [])

unfoldable pub roots_as_said : Tables → Bool
roots_as_said t = all entity_count (λ e. implies (is_root e) (is_root_record e (entity_at t e)))

unfoldable pub keepers_as_said : Tables → Bool
keepers_as_said t = all role_count (λ r. implies (is_keeper r) (role_at t r).live)

-- ---- A live entity that is no root has a name from 1, a live container of its own level as parent, a label that
-- dominates its parent's, a name no sibling has, and a chain of parents that ends at the root.
unfoldable pub has_own_name : Tables → ℕ → Bool
has_own_name t e =
    all entity_count
    (λ f. implies (every (is_child t (entity_at t e).parent f ∷ not (eqb f e) ∷ []))
    (not (eqb (entity_at t f).name (entity_at t e).name)))

unfoldable pub is_placed : Tables → ℕ → Bool
is_placed t e =
    let p = (entity_at t e).parent in
    every
    (leb 1 (entity_at t e).name
    ∷ (entity_at t p).live
    ∷ eqb (entity_at t p).kind container
    ∷ eqb (entity_level p) (entity_level e)
    ∷ dominates (entity_at t e).label (entity_at t p).label
    ∷ has_own_name t e
    ∷ ends_at_root t e
    ∷ [])

unfoldable pub entities_placed : Tables → Bool
entities_placed t =
    all entity_count (λ e. implies (every ((entity_at t e).live ∷ not (is_root e) ∷ [])) (is_placed t e))

-- ---- The entity record carries the shared-container mark, 0 or 1; soundness asks 0 for an object.
unfoldable pub is_mark_allowed : Entity → Bool
is_mark_allowed e = implies (eqb e.kind object) (eqb e.shared 0)

unfoldable pub objects_unshared : Tables → Bool
objects_unshared t = all entity_count (λ e. is_mark_allowed (entity_at t e))

-- ---- A seat, role or entity that is not live has every field zero or empty.
unfoldable pub is_empty_session : Session → Bool
is_empty_session s =
    every
    (eqb s.user 0
    ∷ same_label s.label no_label
    ∷ eqb s.roles 0
    ∷ eqb s.reading 0
    ∷ eqb s.writing 0
    ∷ [])

unfoldable pub is_empty_role : Role → Bool
is_empty_role r =
    every (eqb r.users 0 ∷ eqb r.juniors 0 ∷ eqb r.reads 0 ∷ eqb r.writes 0 ∷ eqb r.executes 0 ∷ eqb r.owns 0 ∷ [])

unfoldable pub is_empty_entity : Entity → Bool
is_empty_entity e =
    every (eqb e.kind 0 ∷ eqb e.parent 0 ∷ eqb e.name 0 ∷ same_label e.label no_label ∷ eqb e.shared 0 ∷ [])

unfoldable pub dead_are_empty : Tables → Bool
dead_are_empty t =
    every
    (all session_count (λ s. implies (not (session_at t s).live) (is_empty_session (session_at t s)))
    ∷ all role_count (λ r. implies (not (role_at t r).live) (is_empty_role (role_at t r)))
    ∷ all entity_count (λ e. implies (not (entity_at t e).live) (is_empty_entity (entity_at t e)))
    ∷ [])

-- Nobody has rights on a dead entity or has it open, and nobody holds a dead role.
unfoldable pub dead_are_unused : Tables → Bool
dead_are_unused t =
    every
    (all role_count (λ r. all entity_count (λ e. implies (not (entity_at t e).live) (eqb (rights_on t r e) 0)))
    ∷ all session_count (λ s. all entity_count (λ e. implies (not (entity_at t e).live) (not (is_reading t s e))))
    ∷ all session_count (λ s. all entity_count (λ e. implies (not (entity_at t e).live) (not (is_writing t s e))))
    ∷ all session_count (λ s. all role_count (λ r. implies (not (role_at t r).live) (not (holds t s r))))
    ∷ [])

-- ---- A role has rights only on entities of its own level or below.
unfoldable pub rights_within : Tables → Bool
rights_within t =
    all role_count
    (λ r. all entity_count (λ e. implies (not (eqb (rights_on t r e) 0)) (leb (entity_level e) (role_level r))))

-- ---- Ties join live roles of one level, and no role is below itself.
unfoldable pub ties_join : Tables → Bool
ties_join t =
    all role_count
    (λ r. all role_count
    (λ j. implies (is_junior t r j) (every ((role_at t r).live ∷ (role_at t j).live ∷ eqb (role_level j) (role_level r) ∷ []))))

unfoldable pub none_below_itself : Tables → Bool
none_below_itself t = all role_count (λ r. not (is_below t r r))

-- ---- An entity open for reading has at least the seat's level, and the seat's label dominates its label. In edition 2 .. soundness
-- drops the level condition on reading.
unfoldable pub reading_within : Tables → Bool
reading_within t =
    all session_count
    (λ s. all entity_count
    (λ e. implies (is_reading t s e)
    (every
    (implies (in_edition1 t) (leb (session_level s) (entity_level e))
    ∷ dominates (session_at t s).label (entity_at t e).label
    ∷ []))))

-- ---- An entity open for writing has at most the seat's level, and the labels are equal.
unfoldable pub writing_within : Tables → Bool
writing_within t =
    all session_count
    (λ s. all entity_count
    (λ e. implies (is_writing t s e)
    (every (leb (entity_level e) (session_level s) ∷ same_label (session_at t s).label (entity_at t e).label ∷ []))))

-- ---- A seat has the read right on what it has open for reading, and the write right on what it has open for writing. Reaching the
-- entity is not looked at again.
unfoldable pub opens_backed : Tables → Bool
opens_backed t =
    all session_count
    (λ s. all entity_count
    (λ e. every (implies (is_reading t s e) (has_right t s read e) ∷ implies (is_writing t s e) (has_right t s write e) ∷ [])))

-- Tables are sound when all of this holds.
unfoldable pub sound_in : ℕ → Tables → Bool
sound_in width t =
    every
    (fields_in_range_in width t
    ∷ roots_as_said t
    ∷ keepers_as_said t
    ∷ entities_placed t
    ∷ objects_unshared t
    ∷ dead_are_empty t
    ∷ dead_are_unused t
    ∷ rights_within t
    ∷ reading_within t
    ∷ writing_within t
    ∷ opens_backed t
    ∷ ties_join t
    ∷ none_below_itself t
    ∷ [])

-- ---- the rules in force: the width is `all_categories`
abbrev pub users_in_range : List User → Bool
users_in_range = users_in_range_in all_categories

abbrev pub sound : Tables → Bool
sound = sound_in all_categories
