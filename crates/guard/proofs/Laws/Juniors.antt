-- The rights of a role, its own and those of the roles below it, over a list of roles.
--     role_in, junior_in, gives_in, has_in     a role of the list, its direct juniors, what its own record gives, and what it has
--     has_in_lem                               "a role then also has the rights of its juniors, and of theirs, to any depth": this is that
--     Has                                  the same with no bound on the number of ties
--     has_more                             with no tie less and no right less in any record, no role has less
--     untied_has                           a role without juniors has what its record says
-- Assumes nothing.
use Prim.Native.Nat.{ℕ, ◌<◌}
use mathlib.Core.Path.{◌≡◌, refl, ◌∙◌}
use mathlib.Core.Bool.{Bool, true}
use mathlib.Core.List.{List}
use lib.ListN.{get_or}
use Rattle.bitset.specs.Tests.Laws.{clash}
use Rattle.bitset.specs.Sets.{has, contains}
use Rattle.bitset.specs.Sets.Laws.{has_none}
use Rattle.guard.specs.Tables.{no_role, role_at, rights_of, rights_on, role_has}
use Rattle.guard.specs.declared.Role.{Role}
use Rattle.guard.specs.declared.Tables.{Tables}
use Rattle.guard.specs.Below.{or_below}
use Rattle.guard.proofs.Laws.Below.{Meets, meets_more, meets_alone}

abbrev pub role_in : List Role → ℕ → Role
role_in roles r = get_or roles r no_role

abbrev pub junior_in : List Role → ℕ → ℕ → Bool
junior_in roles r j = has (role_in roles r).juniors j

abbrev pub gives_in : List Role → ℕ → ℕ → ℕ → Bool
gives_in roles right e r = contains (rights_of (role_in roles r) e) right

abbrev pub has_in : List Role → ℕ → ℕ → ℕ → Bool
has_in roles right e = or_below (junior_in roles) (gives_in roles right e)

pub has_in_lem : (t : Tables) (r right e : ℕ) → role_has t r right e ≡ has_in t.roles right e r
unfolding role_has
has_in_lem t r right e = refl

-- with no bound on the number of ties
abbrev pub Has : List Role → ℕ → ℕ → ℕ → Type 0
Has roles right e = Meets (junior_in roles) (gives_in roles right e)

pub has_more : (old new : List Role) (right e : ℕ)
    → ((r j : ℕ) → r < 16 → j < 16 → junior_in old r j ≡ true → junior_in new r j ≡ true)
    → ((r : ℕ) → r < 16 → gives_in old right e r ≡ true → gives_in new right e r ≡ true)
    → (r : ℕ) → r < 16 → has_in old right e r ≡ true → has_in new right e r ≡ true
has_more old new right e ties gives r l = meets_more _ _ _ _ ties gives r l

-- a role without juniors has what its record says
pub untied_has : (t : Tables) (r right e : ℕ) → r < 16 → (role_at t r).juniors ≡ 0 → role_has t r right e ≡ contains (rights_on t r e) right
untied_has t r right e l none = has_in_lem t r right e ∙ meets_alone (junior_in t.roles) (gives_in t.roles right e) r (λ m tie. clash _ (rw none at tie) (has_none m))
