-- Lines of values in a batch. The contracts of the batch's private functions are put in these words; the report does not
-- cite them.
use Rattle.std.specs.Prelude.{ℕ, ◌+◌, ◌-◌, ◌*◌, ◌≤◌, ◌<◌, ◌≡◌, Bool, true, false, not, List, [], ◌∷◌, ◌++◌, Option, Some, None, length, take, drop, get_or}
use Rattle.std.specs.Int.{from_bool}
use Rattle.guard.specs.Step.{run, answers}
use Rattle.guard.specs.Batch.{row_length, requests}
use Rattle.guard.specs.Batch.{row_of}
use Rattle.guard.specs.declared.Tables.{Tables}
use Rattle.script.specs.Report.{unread_answer, line_text, line_room, last_line}
use Rattle.script.specs.Names.{Ordered}
use Rattle.script.specs.Run.{bench, told_first, from_line}
use Rattle.script.specs.declared.line.Line.{Line}
use Rattle.script.specs.declared.line.Line.TheVariants.{Ask, SetUser}
use Rattle.script.specs.declared.batch.Gathered.{Gathered}

-- how many lines a batch takes
abbrev pub batch_lines : ℕ
batch_lines = 256

-- ---- what a line adds to a batch
unfoldable pub is_request : Option Line → Bool
is_request (Some (Ask q)) = true
is_request (Some (SetUser u)) = false
is_request None = false

unfoldable pub numbers_of : Option Line → List ℕ
numbers_of (Some (Ask q)) = row_of q
numbers_of (Some (SetUser u)) = []
numbers_of None = []

-- A `user` line that is allowed is in no batch: it sets a record between two requests.
unfoldable pub is_allowed : Bool → Option Line → Bool
is_allowed shut (Some (Ask q)) = false
is_allowed shut (Some (SetUser u)) = not shut
is_allowed shut None = false

-- ---- the output for lines
-- `marks` tells of each line whether it asks a request; how many do
abbrev pub one : Bool → ℕ
one m = from_bool m

unfoldable pub asked : List Bool → ℕ
asked [] = 0
asked (m ∷ ms) = one m + asked ms

-- from number n on, given the answers to their requests: 17 where a line asks none
unfoldable pub said : Bool → ℕ → ℕ
said true a = a
said false a = unread_answer

unfoldable pub texts : ℕ → List Bool → List ℕ → List ℕ
texts n [] given = []
texts n (m ∷ ms) given = line_text n (said m (get_or given 0 0)) ++ texts (n + 1) ms (drop (one m) given)

-- ---- batches
-- how many lines a batch may take: with room for their answers, and none after the last line that is read
pub record Most (done room m : ℕ) : Type 0 where
  pub fits : m ≤ batch_lines
  pub space : line_room * m ≤ room
  pub last : m ≤ last_line - done

-- whole lines at the front of s, `shut` telling whether `user` is shut out before them. Whatever input follows, what was left
-- to tell is what the guard answers to their requests, with 17 where a line asks none, and then what is left to tell behind
-- them.
pub record Batched (at : List ℕ) (shut : Bool) (s : List ℕ) (most : ℕ) (rows : List ℕ) (marks : List Bool) (g : Gathered) : Type 0 where
  pub few : g.lines ≤ most
  pub within : g.used ≤ length s
  pub moves : 0 < g.lines → 0 < g.used
  pub marked : g.lines ≤ length marks
  pub stored : row_length * g.count ≤ length rows
  pub count : g.count ≡ asked (take g.lines marks)
  pub goes : (header : List (List ℕ)) → Ordered header at → (t : Tables) (n : ℕ) → n + g.lines ≤ last_line → (more : List ℕ)
      → from_line header (bench t shut) n (s ++ more)
      ≡ told_first (texts (n + 1) (take g.lines marks) (answers t (requests g.count rows)))
      (from_line header (bench (run t (requests g.count rows)) g.shut) (n + g.lines) (drop g.used s ++ more))
