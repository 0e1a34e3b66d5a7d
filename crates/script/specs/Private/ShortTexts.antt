-- A short text as one number, in which the contracts of private functions are put. The report does not cite it.
use Rattle.std.specs.Prelude.{ℕ, suc, ◌+◌, ◌*◌, ◌<◌, ◌≡◌, cond, List, [], ◌∷◌, Option, Some, map, leb, ltb, eqb, length, get_or, take}
use Rattle.std.specs.Bool.{then_some}
use Rattle.script.specs.Names.{column}
use Rattle.script.specs.Line.{words}
use Rattle.script.specs.Private.Rows.{no_word}

-- n and behind it the bytes
unfoldable pub packed : ℕ → List ℕ → ℕ
packed n [] = n
packed n (b ∷ s) = packed (256 * n + b) s

-- 1 and behind it up to seven bytes; 0 for more
unfoldable pub text_key : List ℕ → ℕ
text_key s = cond (leb (length s) 7) (packed 1 s) 0

-- where the keys of texts of four bytes begin and end, and where those of five end
abbrev pub four_from : ℕ
four_from = 4294967296

abbrev pub four_end : ℕ
four_end = 8589934592

abbrev pub five_end : ℕ
five_end = 2199023255552

-- the place of the first k among numbers, or how many there are
abbrev pub spot : ℕ → List ℕ → ℕ
spot k [] = 0
spot k (n ∷ ns) = cond (eqb k n) 0 (suc (spot k ns))

-- a place, if it is one of the first n
abbrev pub below : ℕ → ℕ → Option ℕ
below n i = then_some (ltb i n) i

-- which of the texts it is, if it is one
unfoldable pub place_in : List ℕ → List (List ℕ) → Option ℕ
place_in p ps = below (length ps) (column p ps)

-- which of the words has the key k, if one has it
unfoldable pub word_of : ℕ → Option ℕ
word_of k = below no_word (spot k (map text_key words))

-- s begins with n bytes that are the word w, and a space behind them
pub record Begins (s : List ℕ) (w n : ℕ) : Type 0 where
  pub within : n < 7
  pub word : Some w ≡ word_of (text_key (take n s))
  pub space : get_or s n 0 ≡ 32
