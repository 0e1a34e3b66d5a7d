-- Bytes: lines, values one space apart, decimal numbers.
use Rattle.std.specs.Prelude.{ℕ, ◌+◌, ◌-◌, ◌*◌, ◌/◌, ◌%◌, Bool, true, false, cond, ◌&&◌, List, [], ◌∷◌, ◌++◌, leb, eqb}
use Prim.Native.String.{String, [] as end, ◌∷◌ as ◌then◌}
use Prim.Native.Char.{code}
use Rattle.bitset.specs.Tests.{every}

-- the bytes of a text
unfoldable pub bytes : String → List ℕ
bytes end = []
bytes (c then s) = code c ∷ bytes s

-- the same bytes
unfoldable pub same : List ℕ → List ℕ → Bool
same [] [] = true
same [] (b ∷ bs) = false
same (a ∷ more) [] = false
same (a ∷ more) (b ∷ bs) = eqb a b && same more bs

-- b at the front of the first part
unfoldable pub onto : ℕ → List (List ℕ) → List (List ℕ)
onto b [] = (b ∷ []) ∷ []
onto b (p ∷ ps) = (b ∷ p) ∷ ps

-- A line ends with byte 10; the last may lack it.
unfoldable pub lines : List ℕ → List (List ℕ)
lines [] = []
lines (b ∷ s) = cond (eqb b 10) ([] ∷ lines s) (onto b (lines s))

-- names and values stand one space apart
unfoldable pub values : List ℕ → List (List ℕ)
values [] = [] ∷ []
values (b ∷ s) = cond (eqb b 32) ([] ∷ values s) (onto b (values s))

-- decimal digits, and the number that they write
unfoldable pub all_digits : List ℕ → Bool
all_digits [] = true
all_digits (b ∷ s) = every (leb 48 b ∷ leb b 57 ∷ []) && all_digits s

unfoldable pub number : ℕ → List ℕ → ℕ
number n [] = n
number n (b ∷ s) = number (10 * n + (b - 48)) s

-- a number below 100,000 in decimal, without leading zeros
unfoldable pub place : ℕ → ℕ → List ℕ
place p n = cond (leb p n) ((48 + n / p % 10) ∷ []) []

unfoldable pub decimal : ℕ → List ℕ
decimal n = place 10000 n ++ (place 1000 n ++ (place 100 n ++ (place 10 n ++ ((48 + n % 10) ∷ []))))

-- what stands after the first byte d
unfoldable pub after : ℕ → List ℕ → List ℕ
after d [] = []
after d (b ∷ s) = cond (eqb b d) s (after d s)
