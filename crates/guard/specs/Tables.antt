-- The tables: their records, what the paper says by "has a right", and which role gives it.
use Rattle.std.specs.Prelude.{Option, is_some}
use Rattle.std.specs.Prelude.{ℕ, ◌+◌, Bool, false, not, cond, [], ◌∷◌, leb, eqb, get_or}
use Rattle.bitset.specs.Tests.{every}
use Rattle.bitset.specs.Sets.{has, contains}
use Rattle.guard.specs.Level.{role_count, role_level, entity_level, is_root}
use Rattle.guard.specs.Label.{no_label}
use Rattle.guard.specs.Told.{lowest}
use Rattle.guard.specs.Below.{below, or_below}
use Rattle.guard.specs.declared.User.{User}
use Rattle.guard.specs.declared.Session.{Session}
use Rattle.guard.specs.declared.Role.{Role}
use Rattle.guard.specs.declared.Entity.{Entity}
use Rattle.guard.specs.declared.Tables.{Tables}

-- ---- the records with every field zero or empty
abbrev pub no_user : User
no_user = record { ceiling = 0; clearance = no_label }

abbrev pub no_session : Session
no_session = record { live = false; user = 0; label = no_label; roles = 0; reading = 0; writing = 0 }

abbrev pub no_role : Role
no_role = record { live = false; users = 0; juniors = 0; reads = 0; writes = 0; executes = 0; owns = 0 }

abbrev pub no_entity : Entity
no_entity = record { live = false; kind = 0; parent = 0; name = 0; label = no_label; shared = 0 }

-- ---- the record at a number. Past the end stands what the machine's read of an array has there; every number is
-- tested before it is used, so no answer rests on it.
abbrev pub user_at : Tables → ℕ → User
user_at t u = get_or t.users u no_user

-- Seat: live or not, user, label, roles held, entities open for reading, entities open for writing.
abbrev pub session_at : Tables → ℕ → Session
session_at t s = get_or t.sessions s no_session

-- Role: live or not, users listed, its direct juniors, and for each entity a set of rights.
abbrev pub role_at : Tables → ℕ → Role
role_at t r = get_or t.roles r no_role

-- Entity: live or not, kind, parent, name, label, and the shared-container mark, 0 or 1.
abbrev pub entity_at : Tables → ℕ → Entity
entity_at t e = get_or t.entities e no_entity

-- Tables carry an edition (1 or 2), chosen when built. Edition 1 is the rule so far.
abbrev pub edition1 : ℕ
edition1 = 1

abbrev pub edition2 : ℕ
edition2 = 2

abbrev pub in_edition1 : Tables → Bool
in_edition1 t = eqb t.edition edition1

-- kind (0 object, 1 container)
abbrev pub object : ℕ
object = 0

abbrev pub container : ℕ
container = 1

-- mark (0 or 1)
abbrev pub shared_mark : ℕ
shared_mark = 1

-- rights: read 1, write 2, execute 4, own 8, added up (0 to 15)
abbrev pub read : ℕ
read = 1

abbrev pub write : ℕ
write = 2

abbrev pub execute : ℕ
execute = 4

abbrev pub own : ℕ
own = 8

abbrev pub all_rights : ℕ
all_rights = 15

-- ---- what the records say
abbrev pub holds : Tables → ℕ → ℕ → Bool
holds t s r = has (session_at t s).roles r

abbrev pub is_reading : Tables → ℕ → ℕ → Bool
is_reading t s e = has (session_at t s).reading e

abbrev pub is_writing : Tables → ℕ → ℕ → Bool
is_writing t s e = has (session_at t s).writing e

abbrev pub lists : Tables → ℕ → ℕ → Bool
lists t r u = has (role_at t r).users u

-- j is a direct junior of r: `join` tied them
abbrev pub is_junior : Tables → ℕ → ℕ → Bool
is_junior t r j = has (role_at t r).juniors j

-- j is below r: a junior of it, or of its juniors, to any depth
abbrev pub is_below : Tables → ℕ → ℕ → Bool
is_below t = below (is_junior t)

-- e is a shared container
abbrev pub is_shared : Tables → ℕ → Bool
is_shared t e = eqb (entity_at t e).shared shared_mark

-- the rights of a role on e, added up
unfoldable pub rights_of : Role → ℕ → ℕ
rights_of p e =
    cond (has p.reads e) read 0
    + cond (has p.writes e) write 0
    + cond (has p.executes e) execute 0
    + cond (has p.owns e) own 0

abbrev pub rights_on : Tables → ℕ → ℕ → ℕ
rights_on t r e = rights_of (role_at t r) e

-- A role then also has the rights of its juniors, and of theirs, to any depth.
unfoldable pub role_has : Tables → ℕ → ℕ → ℕ → Bool
role_has t r right e = or_below (is_junior t) (λ j. contains (rights_on t j e) right) r

-- The check of a right tells the lowest-numbered role held by x, of at least e's level, that gives it, or that none does. The role is
-- the held one.
unfoldable pub role_for : Tables → ℕ → ℕ → ℕ → Option ℕ
role_for t x right e = lowest role_count (λ r. every (leb (entity_level e) (role_level r) ∷ holds t x r ∷ role_has t r right e ∷ []))

-- "x has a right on e" means that a role held by x, of at least e's level, has it, itself or through a role below it: that one is told.
unfoldable pub has_right : Tables → ℕ → ℕ → ℕ → Bool
has_right t x right e = is_some (role_for t x right e)

-- f is a child of p. A root is nobody's child.
unfoldable pub is_child : Tables → ℕ → ℕ → Bool
is_child t p f = every ((entity_at t f).live ∷ not (is_root f) ∷ eqb (entity_at t f).parent p ∷ [])
