-- How many records the tables hold, and the level that a number fixes.
use Rattle.std.specs.Prelude.{ℕ, ◌*◌, ◌/◌, ◌%◌, Bool, eqb}

-- The tables hold sixteen users, sixteen seats, sixteen roles and sixty-four entities.
abbrev pub user_count : ℕ
user_count = 16

abbrev pub session_count : ℕ
session_count = 16

abbrev pub role_count : ℕ
role_count = 16

abbrev pub entity_count : ℕ
entity_count = 64

-- The level (integrity, 0 to 3) is fixed by the number: seat s has level s div 4, role r has r div 4, entity e has
-- e div 16.
abbrev pub top_level : ℕ
top_level = 3

abbrev pub session_level : ℕ → ℕ
session_level s = s / 4

abbrev pub role_level : ℕ → ℕ
role_level r = r / 4

abbrev pub entities_per_level : ℕ
entities_per_level = 16

abbrev pub entity_level : ℕ → ℕ
entity_level e = e / entities_per_level

-- Entities 0, 16, 32, 48 are the roots.
abbrev pub root_of : ℕ → ℕ
root_of level = entities_per_level * level

abbrev pub is_root : ℕ → Bool
is_root e = eqb (e % entities_per_level) 0

-- Roles 0, 4, 8, 12 are the keepers: the administrative role of each level.
abbrev pub keeper_of : ℕ → ℕ
keeper_of level = 4 * level

abbrev pub is_keeper : ℕ → Bool
is_keeper r = eqb (r % 4) 0
