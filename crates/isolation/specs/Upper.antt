-- The upper part for a level L, and which requests are upper.
use Rattle.std.specs.Prelude.{Option}
use Rattle.std.specs.Prelude.{ℕ, ◌*◌, Bool, true, cond, List, [], ◌∷◌, map, leb, ltb, drop}
use Rattle.bitset.specs.Tests.{every}
use Rattle.bitset.specs.Sets.{from}
use Rattle.guard.specs.Level.{session_count, session_level, role_level, entity_level, entities_per_level}
use Rattle.guard.specs.Requests.{Field, call, seat, user, role, entity, parent, kind, name, label, rights, shared, junior, rule_of}
use Rattle.guard.specs.Step.{answer, next, role_told}
use Rattle.guard.specs.declared.Session.{Session}
use Rattle.guard.specs.declared.Role.{Role}
use Rattle.guard.specs.declared.Tables.{Tables}
use Rattle.guard.specs.declared.Request.{Request}

-- Upper means of level L or above, lower of a level below L. Levels are blocks of numbers, so the upper sessions and
-- roles are those from first_session L on, and the upper entities those from first_entity L on.
abbrev pub first_session : ℕ → ℕ
first_session L = 4 * L

abbrev pub first_role : ℕ → ℕ
first_role L = 4 * L

abbrev pub first_entity : ℕ → ℕ
first_entity L = entities_per_level * L

-- the live mark, user and label of seats of level L and above; of what those seats hold or have open, the roles and
-- entities of level L and above
unfoldable pub upper_session : ℕ → Session → Session
upper_session L s =
    record {
      live = s.live;
      user = s.user;
      label = s.label;
      roles = from (first_role L) s.roles;
      reading = from (first_entity L) s.reading;
      writing = from (first_entity L) s.writing;
    }

-- the live mark and list of roles of level L and above, and their rights on entities of level L and above. Ties among upper roles
-- join the upper part.
unfoldable pub upper_role : ℕ → Role → Role
upper_role L r =
    record {
      live = r.live;
      users = r.users;
      juniors = from (first_role L) r.juniors;
      reads = from (first_entity L) r.reads;
      writes = from (first_entity L) r.writes;
      executes = from (first_entity L) r.executes;
      owns = from (first_entity L) r.owns;
    }

-- The upper part holds all users; .. the whole record of entities of level L and above. (The mark belongs to the upper part with
-- its entity.) The edition joins the upper part.
unfoldable pub upper : ℕ → Tables → Tables
upper L t =
    record {
      users = t.users;
      sessions = map (upper_session L) (drop (first_session L) t.sessions);
      roles = map (upper_role L) (drop (first_role L) t.roles);
      entities = drop (first_entity L) t.entities;
      edition = t.edition;
    }

-- A request belongs to the level of its acting seat, one of unknown kind too, a login to the level of the seat it
-- fills, and one whose seat is out of range to no level.
unfoldable pub is_upper : ℕ → Request → Bool
is_upper L q = every (ltb q.seat session_count ∷ leb L (session_level q.seat) ∷ [])

-- A request names the seats, roles and entities whose numbers stand in fields that it uses; one of unknown kind names
-- only its seat. A role or entity number past its range counts as upper: its level is past every L.
unfoldable pub field_upper : ℕ → Request → Field → Bool
field_upper L q call = true
field_upper L q seat = leb L (session_level q.seat)
field_upper L q user = true
field_upper L q role = leb L (role_level q.role)
field_upper L q entity = leb L (entity_level q.entity)
field_upper L q parent = leb L (entity_level q.parent)
field_upper L q kind = true
field_upper L q name = true
field_upper L q label = true
field_upper L q rights = true
field_upper L q shared = true
field_upper L q junior = leb L (role_level q.junior)

unfoldable pub names_upper : ℕ → Request → Bool
names_upper L q = every (map (field_upper L q) (rule_of q).uses)

-- the upper requests of a log, in order
unfoldable pub upper_requests : ℕ → List Request → List Request
upper_requests L [] = []
upper_requests L (q ∷ log) = cond (is_upper L q) (q ∷ upper_requests L log) (upper_requests L log)

-- "The isolation rule's equal answers include the role": an answer is its number and the role that is told.
abbrev pub answered : Tables → Request → ℕ × Option ℕ
answered t q = (answer t q, role_told t q)

-- Answers are compared in order: the first upper request of one log with the first of the other, and so on. Of the
-- upper requests, those that name only upper seats, roles and entities.
unfoldable pub upper_answers : ℕ → Tables → List Request → List (ℕ × Option ℕ)
upper_answers L t [] = []
upper_answers L t (q ∷ log) =
    cond (every (is_upper L q ∷ names_upper L q ∷ []))
    (answered t q ∷ upper_answers L (next t q) log)
    (upper_answers L (next t q) log)
