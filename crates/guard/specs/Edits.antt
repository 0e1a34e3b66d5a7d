-- The few edits of which every request's effect is made. None of them reads more than it changes; the one that does is in Backed.
use Rattle.std.specs.Prelude.{ℕ, Bool, true, cond, List, map, set}
use Rattle.bitset.specs.Sets.{contains, with, without, join, minus}
use Rattle.guard.specs.Tables.{session_at, role_at, entity_at, read, write, execute, own, rights_of}
use Rattle.guard.specs.declared.Session.{Session}
use Rattle.guard.specs.declared.Role.{Role}
use Rattle.guard.specs.declared.Entity.{Entity}
use Rattle.guard.specs.declared.Tables.{Tables}

-- ---- the tables with other lists
abbrev pub with_sessions : Tables → List Session → Tables
with_sessions t l = record { users = t.users; sessions = l; roles = t.roles; entities = t.entities; edition = t.edition }

abbrev pub with_roles : Tables → List Role → Tables
with_roles t l = record { users = t.users; sessions = t.sessions; roles = l; entities = t.entities; edition = t.edition }

abbrev pub with_entities : Tables → List Entity → Tables
with_entities t l = record { users = t.users; sessions = t.sessions; roles = t.roles; entities = l; edition = t.edition }

-- ---- one record changed by f, or each
unfoldable pub at_session : ℕ → (Session → Session) → Tables → Tables
at_session x f t = with_sessions t (set t.sessions x (f (session_at t x)))

unfoldable pub at_role : ℕ → (Role → Role) → Tables → Tables
at_role r f t = with_roles t (set t.roles r (f (role_at t r)))

unfoldable pub at_entity : ℕ → (Entity → Entity) → Tables → Tables
at_entity e f t = with_entities t (set t.entities e (f (entity_at t e)))

unfoldable pub each_session : (Session → Session) → Tables → Tables
each_session f t = with_sessions t (map f t.sessions)

unfoldable pub each_role : (Role → Role) → Tables → Tables
each_role f t = with_roles t (map f t.roles)

-- ---- of one session: the roles held, the entities open
abbrev pub holding : ℕ → Session → Session
holding roles s = record { live = s.live; user = s.user; label = s.label; roles = roles; reading = s.reading; writing = s.writing }

abbrev pub opening : ℕ → ℕ → Session → Session
opening reading writing s = record { live = s.live; user = s.user; label = s.label; roles = s.roles; reading = reading; writing = writing }

unfoldable pub take_role : ℕ → Session → Session
take_role r s = holding (with s.roles r) s

unfoldable pub drop_role : ℕ → Session → Session
drop_role r s = holding (without s.roles r) s

unfoldable pub open_reading : ℕ → Session → Session
open_reading e s = opening (with s.reading e) s.writing s

unfoldable pub open_writing : ℕ → Session → Session
open_writing e s = opening s.reading (with s.writing e) s

unfoldable pub close_both : ℕ → Session → Session
close_both e s = opening (without s.reading e) (without s.writing e) s

-- ---- of one role: made; the users listed; the juniors tied to it; the rights on an entity
abbrev pub made_role : Role
made_role = record { live = true; users = 0; juniors = 0; reads = 0; writes = 0; executes = 0; owns = 0 }

abbrev pub listing : ℕ → Role → Role
listing users r =
    record { live = r.live; users = users; juniors = r.juniors; reads = r.reads; writes = r.writes; executes = r.executes; owns = r.owns }

abbrev pub tying : ℕ → Role → Role
tying juniors r =
    record { live = r.live; users = r.users; juniors = juniors; reads = r.reads; writes = r.writes; executes = r.executes; owns = r.owns }

-- the set with e in it, or without
unfoldable pub put_in : Bool → ℕ → ℕ → ℕ
put_in inside e s = cond inside (with s e) (without s e)

-- the role has the rights n on e, and no others
abbrev pub granting : ℕ → ℕ → Role → Role
granting e n r =
    record {
      live = r.live;
      users = r.users;
      juniors = r.juniors;
      reads = put_in (contains n read) e r.reads;
      writes = put_in (contains n write) e r.writes;
      executes = put_in (contains n execute) e r.executes;
      owns = put_in (contains n own) e r.owns;
    }

unfoldable pub set_rights : ℕ → (ℕ → ℕ) → Role → Role
set_rights e f r = granting e (f (rights_of r e)) r

unfoldable pub add_rights : ℕ → ℕ → Role → Role
add_rights e rights = set_rights e (λ old. join old rights)

unfoldable pub remove_rights : ℕ → ℕ → Role → Role
remove_rights e rights = set_rights e (λ old. minus old rights)

unfoldable pub clear_rights : ℕ → Role → Role
clear_rights e = set_rights e (λ old. 0)

unfoldable pub list_user : ℕ → Role → Role
list_user u r = listing (with r.users u) r

unfoldable pub unlist_user : ℕ → Role → Role
unlist_user u r = listing (without r.users u) r

unfoldable pub tie_junior : ℕ → Role → Role
tie_junior j r = tying (with r.juniors j) r

unfoldable pub untie_junior : ℕ → Role → Role
untie_junior j r = tying (without r.juniors j) r

-- ---- of one entity: the name; the mark
unfoldable pub rename_to : ℕ → Entity → Entity
rename_to name e =
    record { live = e.live; kind = e.kind; parent = e.parent; name = name; label = e.label; shared = e.shared }

unfoldable pub mark_as : ℕ → Entity → Entity
mark_as mark e =
    record { live = e.live; kind = e.kind; parent = e.parent; name = e.name; label = e.label; shared = mark }
