-- Fresh tables, and the answer of the build.
use Rattle.std.specs.Prelude.{None}
use Rattle.std.specs.Prelude.{ℕ, zero, suc, true, cond, List, [], ◌∷◌, ◌++◌, replicate}
use Rattle.bitset.specs.Tests.{every}
use Rattle.bitset.specs.Sets.{with}
use Rattle.guard.specs.Level.{user_count, session_count, role_count, entity_count, role_level, root_of, is_root, is_keeper}
use Rattle.guard.specs.Label.{no_label}
use Rattle.guard.specs.Tables.{edition1, no_user, no_session, no_role, no_entity, container, all_rights}
use Rattle.guard.specs.Edits.{listing, granting, made_role}
use Rattle.guard.specs.Sound.{users_in_range, edition_in_range}
use Rattle.guard.specs.declared.User.{User}
use Rattle.guard.specs.declared.Role.{Role}
use Rattle.guard.specs.declared.Entity.{Entity}
use Rattle.guard.specs.declared.Tables.{Tables}
use Rattle.guard.specs.declared.Outcome.{Outcome}

-- f at each number below n, in order
unfoldable pub tabulate : {A : Type 0} → ℕ → (ℕ → A) → List A
tabulate zero f = []
tabulate (suc n) f = tabulate n f ++ (f n ∷ [])

-- only roots and keepers live, each keeper having rights 15 on the root of its level and listing user 0 alone
unfoldable pub fresh_role : ℕ → Role
fresh_role r =
    cond (is_keeper r) (granting (root_of (role_level r)) all_rights (listing (with 0 0) made_role)) no_role

-- "Entities and roots start with 0": the mark
unfoldable pub fresh_entity : ℕ → Entity
fresh_entity e =
    cond (is_root e) (record { live = true; kind = container; parent = e; name = 0; label = no_label; shared = 0 }) no_entity

-- Fresh tables are built from sixteen user records: no live seat, only roots and keepers live. Tables carry an edition, chosen when
-- built.
unfoldable pub fresh : List User → ℕ → Tables
fresh us edition =
    record {
      users = us;
      sessions = replicate session_count no_session;
      roles = tabulate role_count fresh_role;
      entities = tabulate entity_count fresh_entity;
      edition = edition;
    }

-- A number past its range gives answer 2, with fresh tables over sixteen users of ceiling 0 and clearance 0/0; an edition other than
-- 1 or 2 gives 2 when building, and a refused build hands back edition 1. No role is told.
unfoldable pub build : List User → ℕ → Outcome
build us edition =
    cond (every (users_in_range us ∷ edition_in_range edition ∷ []))
    (record { tables = fresh us edition; answer = 0; role = None })
    (record { tables = fresh (replicate user_count no_user) edition1; answer = 2; role = None })
