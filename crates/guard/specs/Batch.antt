-- A batch: requests handed over as rows of numbers, made one after the other.
use Rattle.std.specs.Prelude.{ℕ, ◌+◌, ◌*◌, ◌/◌, ◌≡◌, cond, List, [], ◌∷◌, ◌++◌, map, leb, length, get_or, drop}
use Rattle.guard.specs.Fresh.{tabulate}
use Rattle.guard.specs.Told.{role_byte}
use Rattle.guard.specs.Step.{run, answers, roles_told}
use Rattle.guard.specs.Methods.{request}
use Rattle.guard.specs.declared.Tables.{Tables}
use Rattle.guard.specs.declared.Request.{Request}

-- A request is a row of thirteen numbers, in the order of the record's fields.
abbrev pub row_length : ℕ
row_length = 13

-- A request as a row.
abbrev pub row_of : Request → List ℕ
row_of q =
    q.call ∷ q.seat ∷ q.user ∷ q.role ∷ q.entity ∷ q.parent ∷ q.kind ∷ q.name ∷ q.grade ∷ q.cats ∷ q.rights ∷ q.shared ∷ q.junior ∷ []

-- the number in column j of row i
abbrev pub cell : List ℕ → ℕ → ℕ → ℕ
cell rows i j = get_or rows (row_length * i + j) 0

unfoldable pub request_at : List ℕ → ℕ → Request
request_at rows i =
    request (cell rows i 0) (cell rows i 1) (cell rows i 2) (cell rows i 3) (cell rows i 4) (cell rows i 5) (cell rows i 6) (cell rows i 7) (cell rows i 8) (cell rows i 9) (cell rows i 10) (cell rows i 11) (cell rows i 12)

-- the requests of the first n rows
abbrev pub requests : ℕ → List ℕ → List Request
requests n rows = tabulate n (request_at rows)

-- the shorter of two lengths
unfoldable pub shorter : ℕ → ℕ → ℕ
shorter a b = cond (leb a b) a b

-- as many as stand whole in so many numbers and have room for their answers and for their roles
unfoldable pub batch_length : ℕ → ℕ → ℕ → ℕ
batch_length numbers answers roles = shorter (numbers / row_length) (shorter roles answers)

-- how many requests a host hands over in `rows`, lending `old` for the answers and `old_roles` for the roles; their log
abbrev pub batch_count : List ℕ → List ℕ → List ℕ → ℕ
batch_count rows old old_roles = batch_length (length rows) (length old) (length old_roles)

abbrev pub batch : List ℕ → List ℕ → List ℕ → List Request
batch rows old old_roles = requests (batch_count rows old old_roles) rows

-- What the host gets: the tables u after the log, in the place of the first bytes of `old` the answer to each request, and in the
-- place of those of `old_roles` the role that it tells; the bytes behind them are as they were.
pub record RunsBatch (t : Tables) (rows old new old_roles new_roles : List ℕ) (u : Tables) : Type 0 where
  pub tables : u ≡ run t (batch rows old old_roles)
  pub answered : new ≡ answers t (batch rows old old_roles) ++ drop (batch_count rows old old_roles) old
  pub told : new_roles ≡ map role_byte (roles_told t (batch rows old old_roles)) ++ drop (batch_count rows old old_roles) old_roles
