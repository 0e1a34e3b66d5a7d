-- One line of values.
use Rattle.std.specs.Prelude.{ℕ, ◌-◌, Bool, true, false, cond, ◌||◌, List, [], ◌∷◌, ◌++◌, Option, Some, None, map, leb, ltb, eqb, length, get_or}
use Rattle.bitset.specs.Tests.{every}
use Rattle.guard.specs.Requests.{Field, call, seat, user, role, entity, parent, kind, name, label, rights, shared, junior, unknown, rules}
use Rattle.script.specs.declared.line.Value.{Value}
use Rattle.script.specs.declared.line.Value.TheVariants.{Digits, Dash, Other}
use Rattle.script.specs.declared.line.Line.{Line}
use Rattle.script.specs.declared.line.Line.TheVariants.{Ask, SetUser}
use Rattle.script.specs.Text.{bytes, same, values, all_digits, number}
use Rattle.script.specs.Names.{column, under}

-- ---- values
-- Values are 1 to 5 decimal digits, `-` for a field the request does not use
unfoldable pub value_of : List ℕ → Value
value_of bs =
    cond (same bs (bytes "-")) Dash
    (cond (every (leb 1 (length bs) ∷ leb (length bs) 5 ∷ all_digits bs ∷ [])) (Digits (number 0 bs)) Other)

-- .. and the request's word under `call`: the nineteen, in the order of their numbers
unfoldable pub request_words : List (List ℕ)
request_words =
    bytes "login"
    ∷ bytes "logout"
    ∷ bytes "take"
    ∷ bytes "drop"
    ∷ bytes "openr"
    ∷ bytes "openw"
    ∷ bytes "close"
    ∷ bytes "create"
    ∷ bytes "delete"
    ∷ bytes "rename"
    ∷ bytes "grant"
    ∷ bytes "revoke"
    ∷ bytes "list"
    ∷ bytes "unlist"
    ∷ bytes "make"
    ∷ bytes "unmake"
    ∷ bytes "share"
    ∷ bytes "join"
    ∷ bytes "unjoin"
    ∷ []

-- .. and in front of them the word `user`
unfoldable pub words : List (List ℕ)
words = bytes "user" ∷ request_words

abbrev pub user_word : ℕ
user_word = 0

-- the number of the request whose word has the place w
abbrev pub call_of : ℕ → ℕ
call_of w = w - 1

-- ---- which fields a word uses
-- a field's place among all, to compare two
unfoldable pub ordinal : Field → ℕ
ordinal call = 0
ordinal seat = 1
ordinal user = 2
ordinal role = 3
ordinal entity = 4
ordinal parent = 5
ordinal kind = 6
ordinal name = 7
ordinal label = 8
ordinal rights = 9
ordinal shared = 10
ordinal junior = 11

unfoldable pub is_used : List Field → Field → Bool
is_used [] f = false
is_used (g ∷ gs) f = eqb (ordinal f) (ordinal g) || is_used gs f

-- the names behind `call`, up to `rights`: `level` is the label's grade, `cats` its categories
unfoldable pub fields : List Field
fields = seat ∷ user ∷ role ∷ entity ∷ parent ∷ kind ∷ name ∷ label ∷ label ∷ rights ∷ []

-- the fields of the optional names, in their order
unfoldable pub optional_fields : List Field
optional_fields = shared ∷ junior ∷ []

-- of the names behind `call`, those that the word uses. No request uses `ceiling`; `user` uses the user, its clearance and its
-- ceiling.
unfoldable pub used : ℕ → List Bool
used word =
    let uses = (get_or rules (call_of word) unknown).uses in
    cond (eqb word user_word)
    ((false ∷ true ∷ false ∷ false ∷ false ∷ false ∷ false ∷ true ∷ true ∷ false ∷ true ∷ []) ++ map (λ f. false) optional_fields)
    (map (is_used uses) fields ++ (false ∷ map (is_used uses) optional_fields))

-- ---- reading
-- the numbers of a line, 0 where a field is not used; or a line that can't be read
pub data Numbers : Type 0 where
  these : List ℕ → Numbers
  unreadable : Numbers

unfoldable pub joined : ℕ → Numbers → Numbers
joined n (these ns) = these (n ∷ ns)
joined n unreadable = unreadable

-- A field that a request uses may not be a dash; a dash or number in the wrong place, a value of another form: 17.
unfoldable pub taken : Bool → Value → Numbers → Numbers
taken true (Digits n) rest = joined n rest
taken true Dash rest = unreadable
taken true Other rest = unreadable
taken false (Digits n) rest = unreadable
taken false Dash rest = joined 0 rest
taken false Other rest = unreadable

unfoldable pub take_each : List Bool → List (List ℕ) → Numbers
take_each [] vs = these []
take_each (b ∷ bs) [] = unreadable
take_each (b ∷ bs) (v ∷ vs) = taken b (value_of v) (take_each bs vs)

-- what a line asks: a request, or a user's record; nothing where it can't be read
unfoldable pub asks : ℕ → Numbers → Option Line
asks word (these ns) =
    cond (eqb word user_word)
    (Some (SetUser (record { user = get_or ns 1 0; level = get_or ns 7 0; cats = get_or ns 8 0; ceiling = get_or ns 10 0 })))
    (Some
    (Ask
    (record {
      call = call_of word;
      seat = get_or ns 0 0;
      user = get_or ns 1 0;
      role = get_or ns 2 0;
      entity = get_or ns 3 0;
      parent = get_or ns 4 0;
      kind = get_or ns 5 0;
      name = get_or ns 6 0;
      grade = get_or ns 7 0;
      cats = get_or ns 8 0;
      rights = get_or ns 9 0;
      shared = get_or ns 11 0;
      junior = get_or ns 12 0;
    })))
asks word unreadable = None

-- the values in the order of all names: the word, and the others
unfoldable pub line_of : List (List ℕ) → Option Line
line_of [] = None
line_of (w ∷ vs) =
    let word = column w words in
    cond (ltb word (length words)) (asks word (take_each (used word) vs)) None

abbrev pub longest_line : ℕ
longest_line = 255

-- Other faults in a line (over 255 bytes before byte 10, empty, wrong number of values, a value of another form, a dash or
-- number in the wrong place, unknown word, ..) give 17. An empty line has one value, of no form.
unfoldable pub read_line : List (List ℕ) → List ℕ → Option Line
read_line header l =
    let vs = values l in
    cond (every (leb (length l) longest_line ∷ eqb (length vs) (length header) ∷ [])) (line_of (under header vs)) None
