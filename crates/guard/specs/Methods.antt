-- The request that each method of the tables makes: its number, its arguments, and 0 in the fields that it does not use.
use Rattle.std.specs.Prelude.{ℕ}
use Rattle.guard.specs.Kind.{login, logout, create, rename, share}
use Rattle.guard.specs.declared.Request.{Request}

-- the fields in the order of the record: call, seat, user, role, entity, parent, kind, name, grade, cats, rights, shared, junior
abbrev pub request : ℕ → ℕ → ℕ → ℕ → ℕ → ℕ → ℕ → ℕ → ℕ → ℕ → ℕ → ℕ → ℕ → Request
request call seat user role entity parent kind name grade cats rights shared junior =
    record {
      call = call;
      seat = seat;
      user = user;
      role = role;
      entity = entity;
      parent = parent;
      kind = kind;
      name = name;
      grade = grade;
      cats = cats;
      rights = rights;
      shared = shared;
      junior = junior;
    }

abbrev pub login_request : ℕ → ℕ → ℕ → ℕ → Request
login_request seat user grade cats = request login seat user 0 0 0 0 0 grade cats 0 0 0

abbrev pub logout_request : ℕ → Request
logout_request seat = request logout seat 0 0 0 0 0 0 0 0 0 0 0

-- take, drop, make, unmake: a seat and a role
abbrev pub role_request : ℕ → ℕ → ℕ → Request
role_request call seat role = request call seat 0 role 0 0 0 0 0 0 0 0 0

-- openr, openw, close, delete: a seat and an entity
abbrev pub entity_request : ℕ → ℕ → ℕ → Request
entity_request call seat entity = request call seat 0 0 entity 0 0 0 0 0 0 0 0

abbrev pub create_request : ℕ → ℕ → ℕ → ℕ → ℕ → ℕ → ℕ → ℕ → Request
create_request seat entity kind parent name grade cats role = request create seat 0 role entity parent kind name grade cats 0 0 0

abbrev pub rename_request : ℕ → ℕ → ℕ → Request
rename_request seat entity name = request rename seat 0 0 entity 0 0 name 0 0 0 0 0

-- grant, revoke: a seat, a role, an entity and rights
abbrev pub rights_request : ℕ → ℕ → ℕ → ℕ → ℕ → Request
rights_request call seat role entity rights = request call seat 0 role entity 0 0 0 0 0 rights 0 0

-- list, unlist: a seat, a role and a user
abbrev pub list_request : ℕ → ℕ → ℕ → ℕ → Request
list_request call seat role user = request call seat user role 0 0 0 0 0 0 0 0 0

abbrev pub share_request : ℕ → ℕ → ℕ → Request
share_request seat entity mark = request share seat 0 0 entity 0 0 0 0 0 0 mark 0

-- join, unjoin: a seat, the senior role and the junior
abbrev pub tie_request : ℕ → ℕ → ℕ → ℕ → Request
tie_request call seat senior junior = request call seat 0 senior 0 0 0 0 0 0 0 0 junior
