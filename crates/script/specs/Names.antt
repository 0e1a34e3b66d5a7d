-- The line of names.
use Rattle.std.specs.Prelude.{ℕ, suc, ◌<◌, ◌≡◌, Bool, true, false, not, cond, ◌||◌, List, [], ◌∷◌, ◌++◌, map, get_or}
use Rattle.bitset.specs.Tests.{every}
use Rattle.script.specs.Text.{bytes, same}

-- The twelve names are those in the sample
unfoldable pub names : List (List ℕ)
names =
    bytes "call"
    ∷ bytes "seat"
    ∷ bytes "user"
    ∷ bytes "role"
    ∷ bytes "entity"
    ∷ bytes "parent"
    ∷ bytes "kind"
    ∷ bytes "name"
    ∷ bytes "level"
    ∷ bytes "cats"
    ∷ bytes "rights"
    ∷ bytes "ceiling"
    ∷ []

-- .. and a thirteenth name `shared`; a names line without it is still read. The program has the senior under `role` and gains
-- a name `junior`; a names line without `junior` is still read
unfoldable pub optional_names : List (List ℕ)
optional_names = bytes "shared" ∷ bytes "junior" ∷ []

unfoldable pub all_names : List (List ℕ)
all_names = names ++ optional_names

-- the place of the first p among ps, or how many there are
unfoldable pub column : List ℕ → List (List ℕ) → ℕ
column p [] = 0
column p (q ∷ ps) = cond (same p q) 0 (suc (column p ps))

unfoldable pub among : List (List ℕ) → List ℕ → Bool
among [] p = false
among (q ∷ ps) p = same p q || among ps p

unfoldable pub none_twice : List (List ℕ) → Bool
none_twice [] = true
none_twice (p ∷ ps) = every (not (among ps p) ∷ none_twice ps ∷ [])

-- each once, in any order: the twelve are all there, each in the line is one of them or an optional one, and none stands twice
unfoldable pub is_names : List (List ℕ) → Bool
is_names header =
    every (every (map (among header) names) ∷ every (map (among all_names) header) ∷ none_twice header ∷ [])

-- then lines of values in that order: the value under each name, in the sample's order and then that of the optional ones, the
-- field under a name that the line lacks counting as a dash
unfoldable pub under : List (List ℕ) → List (List ℕ) → List (List ℕ)
under header vs = map (λ n. get_or vs (column n header) (bytes "-")) all_names

-- The order is kept in sixteen places.
abbrev pub place_count : ℕ
place_count = 16

-- `at` tells for each place which name of the header stands there. Behind the header's last stands the empty text, which is none.
pub record Ordered (header : List (List ℕ)) (at : List ℕ) : Type 0 where
  pub good : is_names header ≡ true
  pub place : (j : ℕ) → j < place_count → get_or at j 0 ≡ column (get_or header j []) all_names
