-- What binds old tables and their logs: category numbers within a width, of a request and of tables; and tables without marks and
-- without ties, of edition 1.
use Rattle.std.specs.Prelude.{ℕ, ◌≤◌, ◌<◌, ◌≡◌, Bool, true, map, leb}
use Rattle.bitset.specs.Tests.{every}
use Rattle.guard.specs.Level.{user_count, session_count, role_count, entity_count}
use Rattle.guard.specs.Tables.{edition1, user_at, session_at, role_at, entity_at}
use Rattle.guard.specs.Requests.{Field, call, seat, user, role, entity, parent, kind, name, label, rights, shared, junior, rule_of}
use Rattle.guard.specs.declared.Tables.{Tables}
use Rattle.guard.specs.declared.Request.{Request}

-- The category number of a request stays within a width. Fields that it does not use are not looked at.
unfoldable pub field_within : ℕ → Request → Field → Bool
field_within width q call = true
field_within width q seat = true
field_within width q user = true
field_within width q role = true
field_within width q entity = true
field_within width q parent = true
field_within width q kind = true
field_within width q name = true
field_within width q label = leb q.cats width
field_within width q rights = true
field_within width q shared = true
field_within width q junior = true

unfoldable pub categories_within : ℕ → Request → Bool
categories_within width q = every (map (field_within width q) (rule_of q).uses)

-- Each set of categories in the tables is within a width.
pub record Fits (width : ℕ) (t : Tables) : Type 0 where
  pub users : (u : ℕ) → u < user_count → (user_at t u).clearance.cats ≤ width
  pub sessions : (s : ℕ) → s < session_count → (session_at t s).label.cats ≤ width
  pub entities : (e : ℕ) → e < entity_count → (entity_at t e).label.cats ≤ width

-- No container is shared, no role has juniors, and the edition is 1, as in old tables taken over.
pub record AsOld (t : Tables) : Type 0 where
  pub unshared : (e : ℕ) → e < entity_count → (entity_at t e).shared ≡ 0
  pub untied : (r : ℕ) → r < role_count → (role_at t r).juniors ≡ 0
  pub edition : t.edition ≡ edition1
