-- Numbers handed back, by who brings them on: the condition of each. 1 and 2 stand in Step, 17 is the request program's.
use Rattle.std.specs.Prelude.{ℕ, Bool, not, [], ◌∷◌, ltb, eqb}
use Rattle.bitset.specs.Tests.{every, either, some}
use Rattle.guard.specs.Level.{role_count, entity_count, session_level, role_level, entity_level, keeper_of}
use Rattle.guard.specs.Label.{label, dominates, same_label}
use Rattle.guard.specs.Tables.{user_at, session_at, role_at, entity_at, object, container, execute, own, holds, is_reading, is_writing, lists, is_junior, is_below, is_shared, has_right, is_child}
use Rattle.guard.specs.Chain.{parent_of, reaches}
use Rattle.guard.specs.declared.Label.{Label}
use Rattle.guard.specs.declared.Tables.{Tables}
use Rattle.guard.specs.declared.Request.{Request}

-- the label asked for
abbrev pub label_asked : Request → Label
label_asked q = label q.grade q.cats

module _ (t : Tables) (q : Request) where
  -- ---- The host program
  -- 3 login: the seat is live.
  abbrev pub seat_live : Bool
  seat_live = (session_at t q.seat).live

  -- 4 login: the user's ceiling is below the seat's level, or the clearance does not dominate the label.
  unfoldable pub user_too_low : Bool
  user_too_low =
      either (ltb (user_at t q.user).ceiling (session_level q.seat))
      (not (dominates (user_at t q.user).clearance (label_asked q)))

  -- ---- The acting seat
  -- 5 it is not live.
  abbrev pub seat_dead : Bool
  seat_dead = not (session_at t q.seat).live

  -- 9 the parent is no container.
  abbrev pub parent_no_container : Bool
  parent_no_container = not (eqb (entity_at t q.parent).kind container)

  -- share: the entity is an object.
  abbrev pub entity_is_object : Bool
  entity_is_object = eqb (entity_at t q.entity).kind object

  -- 10 integrity. openr: e's level is below x's.
  abbrev pub entity_below_seat : Bool
  entity_below_seat = ltb (entity_level q.entity) (session_level q.seat)

  -- openw, share: x's is below e's.
  abbrev pub seat_below_entity : Bool
  seat_below_entity = ltb (session_level q.seat) (entity_level q.entity)

  abbrev pub role_below_entity : Bool
  role_below_entity = ltb (role_level q.role) (entity_level q.entity)

  -- create: e and parent differ in level, or the role is below e.
  unfoldable pub create_out_of_level : Bool
  create_out_of_level = either (not (eqb (entity_level q.entity) (entity_level q.parent))) role_below_entity

  -- grant, revoke: x or the role is below e.
  unfoldable pub grant_below : Bool
  grant_below = either seat_below_entity role_below_entity

  -- list, unlist, make, unmake: x is below the role.
  abbrev pub seat_below_role : Bool
  seat_below_role = ltb (session_level q.seat) (role_level q.role)

  -- join, unjoin: x is below the senior, or the levels of the two differ.
  unfoldable pub tie_out_of_level : Bool
  tie_out_of_level = either seat_below_role (not (eqb (role_level q.junior) (role_level q.role)))

  -- 11 confidentiality. openr: x's label does not dominate e's.
  abbrev pub label_below_entity : Bool
  label_below_entity = not (dominates (session_at t q.seat).label (entity_at t q.entity).label)

  -- openw: the two differ.
  abbrev pub labels_differ : Bool
  labels_differ = not (same_label (session_at t q.seat).label (entity_at t q.entity).label)

  -- create: the new label does not dominate the parent's.
  abbrev pub label_below_parent : Bool
  label_below_parent = not (dominates (label_asked q) (entity_at t q.parent).label)

  -- 12 take: x's user is not listed.
  abbrev pub user_unlisted : Bool
  user_unlisted = not (lists t q.role (session_at t q.seat).user)

  -- create: x does not hold the role.
  abbrev pub role_not_held : Bool
  role_not_held = not (holds t q.seat q.role)

  -- list, unlist, make, unmake, join, unjoin: x does not hold the keeper of the role's level. Holding a keeper means the keeper itself.
  abbrev pub keeper_not_held : Bool
  keeper_not_held = not (holds t q.seat (keeper_of (role_level q.role)))

  -- 22 for join, the two are one role or the senior is already below the junior.
  unfoldable pub closes_cycle : Bool
  closes_cycle = either (eqb q.role q.junior) (is_below t q.junior q.role)

  -- 13 openr, openw: x lacks read or write on e, or does not reach e.
  unfoldable pub cannot_open : ℕ → Bool
  cannot_open right = either (not (has_right t q.seat right q.entity)) (not (reaches t q.seat q.entity))

  -- create, delete, rename: x has not the parent open for writing, or lacks execute on it.
  unfoldable pub cannot_change_in : ℕ → Bool
  cannot_change_in parent = either (not (is_writing t q.seat parent)) (not (has_right t q.seat execute parent))

  -- grant, revoke, share: x lacks own on e.
  abbrev pub not_owned : Bool
  not_owned = not (has_right t q.seat own q.entity)

  -- the parent in the entity's record, for delete and rename
  abbrev pub recorded_parent : ℕ
  recorded_parent = parent_of t q.entity

  -- delete, rename: the parent is the one in the record, and in a shared container delete and rename also need own on the entity.
  unfoldable pub cannot_change : Bool
  cannot_change = either (cannot_change_in recorded_parent) (every (is_shared t recorded_parent ∷ not_owned ∷ []))

  -- 16 it is so already: held, open in the way asked for, listed.
  abbrev pub role_held : Bool
  role_held = holds t q.seat q.role

  abbrev pub open_for_reading : Bool
  open_for_reading = is_reading t q.seat q.entity

  abbrev pub open_for_writing : Bool
  open_for_writing = is_writing t q.seat q.entity

  abbrev pub user_listed : Bool
  user_listed = lists t q.role q.user

  -- join: the tie exists already.
  abbrev pub tied : Bool
  tied = is_junior t q.role q.junior

  -- share: the mark is so.
  abbrev pub marked_so : Bool
  marked_so = eqb (entity_at t q.entity).shared q.shared

  -- For drop, close, unlist: there is nothing to end. (drop: role_not_held) For unjoin: the tie is missing.
  unfoldable pub not_open : Bool
  not_open = not (either (is_reading t q.seat q.entity) (is_writing t q.seat q.entity))

  abbrev pub user_not_listed : Bool
  user_not_listed = not (lists t q.role q.user)

  abbrev pub not_tied : Bool
  not_tied = not (is_junior t q.role q.junior)

  -- ---- Anyone who acted earlier
  -- 7 the entity, parent or role named is not live (for create, the parent or the role).
  abbrev pub entity_dead : Bool
  entity_dead = not (entity_at t q.entity).live

  abbrev pub parent_dead : Bool
  parent_dead = not (entity_at t q.parent).live

  abbrev pub role_dead : Bool
  role_dead = not (role_at t q.role).live

  abbrev pub junior_dead : Bool
  junior_dead = not (role_at t q.junior).live

  -- 8 the number to be made is live.
  abbrev pub entity_live : Bool
  entity_live = (entity_at t q.entity).live

  abbrev pub role_live : Bool
  role_live = (role_at t q.role).live

  -- 14 a child of that parent has the name, the entity itself included.
  unfoldable pub name_taken : ℕ → Bool
  name_taken parent = some entity_count (λ f. every (is_child t parent f ∷ eqb (entity_at t f).name q.name ∷ []))

  -- 15 the entity has children.
  unfoldable pub has_children : Bool
  has_children = some entity_count (λ f. is_child t q.entity f)

  -- unmake: the role has a junior or a senior.
  unfoldable pub role_tied : Bool
  role_tied = some role_count (λ k. either (is_junior t q.role k) (is_junior t k q.role))
