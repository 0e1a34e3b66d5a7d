-- The words in which the contracts of the row reader's private functions are put: a row of numbers, one under each name,
-- and how it is taken apart. The report does not cite them, so a reader of the paper need not read them.
use Rattle.std.specs.Prelude.{ℕ, zero, suc, ◌+◌, ◌%◌, ◌≡◌, Bool, true, false, MatchOption, not, cond, ◌&&◌, List, [], ◌∷◌, Option, Some, None, eqb, ltb, length, get_or, set, drop, replicate}
use Rattle.bitset.specs.Sets.{has, with}
use Rattle.script.specs.Text.{bytes, same, values}
use Rattle.script.specs.Names.{place_count, column}
use Rattle.script.specs.Line.{value_of, words, Numbers, unreadable, joined}
use Rattle.script.specs.Private.Slices.{leading}
use Rattle.script.specs.declared.line.Value.{Value}
use Rattle.script.specs.declared.line.Value.TheVariants.{Digits, Dash, Other}
use Rattle.script.specs.declared.fields.Six.{Six}
use Rattle.script.specs.declared.row.Found.{Found}
use Rattle.script.specs.declared.row.Row.{Row}

-- ---- values
-- a value under `call`: a word counts as digits, those of its place
unfoldable pub word_value : List ℕ → Value
word_value v = cond (same v (bytes "-")) Dash (cond (ltb (column v words) (length words)) (Digits (column v words)) Other)

-- a value under the name i: `call` is name 0
unfoldable pub value_under : ℕ → List ℕ → Value
value_under i v = cond (eqb i 0) (word_value v) (value_of v)

-- the value at byte `from` of s, under the name i
pub record IsFound (i : ℕ) (s : List ℕ) (from : ℕ) (r : Found) : Type 0 where
  pub value : r.value ≡ value_under i (leading (drop from s))
  pub end : r.end ≡ from + length (leading (drop from s))
  pub more : r.more ≡ eqb (get_or s r.end 0) 32

-- ---- rows
-- the name of the place j, and the value there; `at` tells the name of each place
abbrev pub name_at : List ℕ → ℕ → ℕ
name_at at j = get_or at j 0 % 16

unfoldable pub value_in : List ℕ → List (List ℕ) → ℕ → Value
value_in at vs j = value_under (name_at at j) (get_or vs j [])

-- what is no word has the place behind the last: how many words there are
abbrev pub no_word : ℕ
no_word = 20

-- the row of no values: no word, and 0 under each other name
unfoldable pub blank : List ℕ
blank = set (replicate place_count 0) 0 no_word

-- a row, and the set of the names whose value is a number, with a value put under the name i; whether it has a form
unfoldable pub put_under : List ℕ → ℕ → Value → List ℕ
put_under row i (Digits n) = set row i n
put_under row i Dash = row
put_under row i Other = row

unfoldable pub mark_under : ℕ → ℕ → Value → ℕ
mark_under given i (Digits n) = with given i
mark_under given i Dash = given
mark_under given i Other = given

unfoldable pub has_form : Value → Bool
has_form (Digits n) = true
has_form Dash = true
has_form Other = false

-- so with the first j values; and whether each has a form
unfoldable pub gathered : List ℕ → List (List ℕ) → ℕ → List ℕ
gathered at vs zero = blank
gathered at vs (suc j) = put_under (gathered at vs j) (name_at at j) (value_in at vs j)

unfoldable pub marked : List ℕ → List (List ℕ) → ℕ → ℕ
marked at vs zero = 0
marked at vs (suc j) = mark_under (marked at vs j) (name_at at j) (value_in at vs j)

unfoldable pub fine : List ℕ → List (List ℕ) → ℕ → Bool
fine at vs zero = true
fine at vs (suc j) = fine at vs j && has_form (value_in at vs j)

-- what is none of the names has the place behind the last: how many names there are, and how many behind `call`
abbrev pub name_count : ℕ
name_count = 14

abbrev pub field_count : ℕ
field_count = 13

-- so many values are as many as there are names: a name stands at the last place, and none at the next
unfoldable pub fills : List ℕ → ℕ → Bool
fills at zero = false
fills at (suc j) = ltb (suc j) place_count && (not (eqb (name_at at j) name_count) && eqb (name_at at (suc j)) name_count)

-- a line has as many values as there are names, each of a form
unfoldable pub is_full : List ℕ → List (List ℕ) → Bool
is_full at vs = fills at (length vs) && fine at vs (length vs)

-- the row of a line l: the numbers of a full one, each under its name, and the set of their names
pub record IsFull (at l vals : List ℕ) (given : ℕ) : Type 0 where
  pub full : is_full at (values l) ≡ true
  pub holds : vals ≡ gathered at (values l) (length (values l))
  pub marks : given ≡ marked at (values l) (length (values l))

pub record IsRow (at l vals : List ℕ) (r : Row) : Type 0 where
  pub long : r.len ≡ length l
  pub whole : MatchOption r.given (is_full at (values l) ≡ false) (IsFull at l vals)

-- ---- fields
-- what a field is taken as, by whether the word uses it and whether its value is a number; nothing where it has a fault
unfoldable pub taken_as : Bool → Bool → ℕ → Option ℕ
taken_as true true n = Some n
taken_as true false n = None
taken_as false true n = None
taken_as false false n = Some n

unfoldable pub joins : Option ℕ → Numbers → Numbers
joins (Some n) rest = joined n rest
joins None rest = unreadable

-- n fields of a row from name i on, in front of the rest; `uses` is the set of the used ones, `given` that of the numbers
unfoldable pub take_from : ℕ → ℕ → List ℕ → ℕ → ℕ → Numbers → Numbers
take_from uses given vals i zero rest = rest
take_from uses given vals i (suc n) rest = joins (taken_as (has uses i) (has given i) (get_or vals i 0)) (take_from uses given vals (suc i) n rest)

-- numbers in front of the rest, and the first six so
unfoldable pub front : List ℕ → Numbers → Numbers
front [] rest = rest
front (n ∷ ns) rest = joined n (front ns rest)

unfoldable pub ahead : Option Six → Numbers → Numbers
ahead (Some x) rest = front (x.seat ∷ x.user ∷ x.role ∷ x.entity ∷ x.parent ∷ x.kind ∷ []) rest
ahead None rest = unreadable

-- the members of a set from i on, n of them, as tests
unfoldable pub members : ℕ → ℕ → ℕ → List Bool
members s i zero = []
members s i (suc n) = has s i ∷ members s (suc i) n
