-- Tables of the old width, and taking them over.
use Rattle.std.specs.Prelude.{map}
use Rattle.guard.specs.Tables.{edition1}
use Rattle.guard.specs.declared.Label.{Label}
use Rattle.guard.specs.declared.User.{User}
use Rattle.guard.specs.declared.Session.{Session}
use Rattle.guard.specs.declared.Role.{Role}
use Rattle.guard.specs.declared.Entity.{Entity}
use Rattle.guard.specs.declared.Tables.{Tables}
use Rattle.guard.specs.declared.old.OldLabel.{OldLabel}
use Rattle.guard.specs.declared.old.OldUser.{OldUser}
use Rattle.guard.specs.declared.old.OldSession.{OldSession}
use Rattle.guard.specs.declared.old.OldRole.{OldRole}
use Rattle.guard.specs.declared.old.OldEntity.{OldEntity}
use Rattle.guard.specs.declared.old.OldTables.{OldTables}

-- Tables in the old width are taken over with every number the same; they have no marks, which start with 0, no ties, and no edition:
-- "Edition 1 is the rule so far."
abbrev pub label_taken : OldLabel → Label
label_taken a = record { cats = a.cats; grade = a.grade }

abbrev pub user_taken : OldUser → User
user_taken u = record { ceiling = u.ceiling; clearance = label_taken u.clearance }

abbrev pub session_taken : OldSession → Session
session_taken s =
    record {
      live = s.live;
      user = s.user;
      label = label_taken s.label;
      roles = s.roles;
      reading = s.reading;
      writing = s.writing;
    }

abbrev pub role_taken : OldRole → Role
role_taken r =
    record {
      live = r.live;
      users = r.users;
      juniors = 0;
      reads = r.reads;
      writes = r.writes;
      executes = r.executes;
      owns = r.owns;
    }

abbrev pub entity_taken : OldEntity → Entity
entity_taken e =
    record { live = e.live; kind = e.kind; parent = e.parent; name = e.name; label = label_taken e.label; shared = 0 }

unfoldable pub taken_over : OldTables → Tables
taken_over o =
    record {
      users = map user_taken o.users;
      sessions = map session_taken o.sessions;
      roles = map role_taken o.roles;
      entities = map entity_taken o.entities;
      edition = edition1;
    }
