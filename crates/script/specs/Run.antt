-- A run of the program from its middle: what a runner has yet to print for the input that is left. The contracts of the
-- runner and the statements on whole runs (Theorem) are put in these words; `rest` of the runner that nothing has been done
-- with is `report` (`rest_unbegun`, Proof/Sessions).
use Rattle.std.specs.Prelude.{ℕ, ◌+◌, ◌-◌, ◌≤◌, ◌<◌, ◌≡◌, ◌≢◌, Bool, true, false, cond, List, [], ◌∷◌, ◌++◌, leb, length, take, drop, replicate}
use Rattle.guard.specs.declared.Tables.{Tables}
use Rattle.script.specs.Text.{lines, values, after}
use Rattle.script.specs.Names.{place_count, is_names, Ordered}
use Rattle.script.specs.Line.{longest_line, read_line}
use Rattle.script.specs.Report.{Bench, answer_line, heading, line_room, answered, last_line, first_bench, below}
use Rattle.script.specs.declared.runner.Phase.{Phase}
use Rattle.script.specs.declared.runner.Phase.TheVariants.{Heading, Names, Lines, Over}
use Rattle.script.specs.declared.runner.Runner.{Runner}
use Rattle.script.specs.declared.runner.Ran.{Ran}

-- ---- the phases of a runner: the heading is to come; the names are to come; lines of values; the run is over
-- whether lines of values are still to begin
abbrev pub before_lines : Phase → Bool
before_lines Heading = true
before_lines Names = true
before_lines Lines = false
before_lines Over = false

abbrev pub bench : Tables → Bool → Bench
bench t shut = record { tables = t; shut = shut }

abbrev pub bench_of : Runner → Bench
bench_of r = r.bench

-- ---- what is printed, and the bench at the end of it
pub record Told : Type 0 where
  pub text : List ℕ
  pub bench : Bench

abbrev pub told_first : List ℕ → Told → Told
told_first w p = record { text = w ++ p.text; bench = p.bench }

abbrev pub silent : Bench → Told
silent b = record { text = []; bench = b }

-- the bench after lines of values
unfoldable pub finally : List (List ℕ) → Bench → List (List ℕ) → Bench
finally header b [] = b
finally header b (l ∷ ls) = finally header (answer_line b (read_line header l)).bench ls

-- .. and after all lines, the names line first
unfoldable pub closing : List (List ℕ) → Bench
closing [] = first_bench
closing (h ∷ ls) = cond (is_names (values h)) (finally (values h) first_bench ls) first_bench

-- n lines are done, the names line as 1; s is what is left, from the beginning of a line on
unfoldable pub from_line : List (List ℕ) → Bench → ℕ → List ℕ → Told
from_line header b n s =
    let ls = take (last_line - n) (lines s) in
    record { text = answered header b (n + 1) ls; bench = finally header b ls }

-- the names line is to come
unfoldable pub from_names : List ℕ → Told
from_names s = record { text = below (take last_line (lines s)); bench = closing (take last_line (lines s)) }

-- what a runner that has read the names `header` has yet to tell. The line in which `skip` is set has been answered: what
-- is left of it is passed over.
unfoldable pub rest_in : Phase → List (List ℕ) → Runner → List ℕ → Told
rest_in Heading header r s = told_first heading (from_names s)
rest_in Names header r s = from_names s
rest_in Lines header r s = from_line header (bench_of r) r.done (cond r.skip (after 10 s) s)
rest_in Over header r s = silent (bench_of r)

abbrev pub rest : List (List ℕ) → Runner → List ℕ → Told
rest header r s = rest_in r.phase header r s

-- a runner that has done nothing but read the names `header`, if any: until then its bench is the opening one, and then
-- it knows their order
pub record Fits (header : List (List ℕ)) (r : Runner) : Type 0 where
  pub opens : before_lines r.phase ≡ true → bench_of r ≡ first_bench
  pub knows : r.phase ≡ Lines → Ordered header r.at

-- the run is over, after a bad first line or with the last line that is read: nothing is left to tell, whatever input
-- follows (`over_silent`, Proof/Silent)
unfoldable pub is_over_in : Phase → ℕ → Bool
is_over_in Heading done = false
is_over_in Names done = false
is_over_in Lines done = leb last_line done
is_over_in Over done = true

abbrev pub is_over : Runner → Bool
is_over r = is_over_in r.phase r.done

-- ---- a call on a piece
-- whatever input follows, what was left to tell is w and then what is left to tell now
pub record Onward (end : Bool) (header : List (List ℕ)) (r : Runner) (s w : List ℕ) (r2 : Runner) (s2 : List ℕ) : Type 0 where
  pub known : List (List ℕ)
  pub fits : Fits known r2
  pub same : (more : List ℕ) → (end ≡ true → more ≡ []) → rest header r (s ++ more) ≡ told_first w (rest known r2 (s2 ++ more))

abbrev pub Goes : Bool → Runner → List ℕ → List ℕ → Runner → List ℕ → Type 0
Goes end r s w r2 s2 = (header : List (List ℕ)) → Fits header r → Onward end header r s w r2 s2

-- how much of the piece is used, and what stands in the output's first bytes; the other bytes are as they were
pub record Worked (r : Runner) (piece : List ℕ) (end : Bool) (old new : List ℕ) (x : Ran) : Type 0 where
  pub within : x.used ≤ length piece
  pub room : x.wrote ≤ length old
  pub frame : drop x.wrote new ≡ drop x.wrote old
  pub goes : Goes end r piece (take x.wrote new) x.runner (drop x.used piece)

-- something is left to be done: the heading or the names are to come, or there is input and lines are to be read
pub data Open (r : Runner) (left : List ℕ) : Type 0 where
  names_to_come : before_lines r.phase ≡ true → Open r left
  line_to_come : r.phase ≡ Lines → r.done < last_line → 0 < length left → Open r left

-- no more can be done: nothing is left to be done, or there is no room, or no whole line is left and more input is to come
abbrev pub Stopped : Runner → List ℕ → Bool → ℕ → Type 0
Stopped r left end room = Open r left → line_room ≤ room → (end ≡ false) × (length left ≤ longest_line) × (r.phase ≢ Heading)

-- where a call on a piece ends
pub record Finished (r : Runner) (piece : List ℕ) (end : Bool) (old new : List ℕ) (x : Ran) : Type 0 where
  pub did : Worked r piece end old new x
  pub stops : Stopped x.runner (drop x.used piece) end (length old - x.wrote)

-- ---- a host that has input s in all, read or not yet read, hands over any piece of what is left with any room for output, and
-- keeps what the call did not use. `Session r s w r2 left`: calls that begin with r have handed out w, their runner is r2, and
-- `left` is what none of them used
pub data Session (r : Runner) (s : List ℕ) : List ℕ → Runner → List ℕ → Type 0 where
  begin : Session r s [] r s
  call : {w piece more old new : List ℕ} {r2 : Runner} {end : Bool} {x : Ran} → Session r s w r2 (piece ++ more)
      → (end ≡ true → more ≡ []) → Finished r2 piece end old new x
      → Session r s (w ++ take x.wrote new) x.runner (drop x.used piece ++ more)

-- the runner that nothing has been done with
abbrev pub unbegun : Runner
unbegun =
    record {
      bench = first_bench;
      at = replicate place_count 0;
      phase = Heading;
      done = 0;
      skip = false;
    }

-- ---- the bytes of a buffer from `used` up to `have`, as far as there are any, at its front: r bytes
pub record Moved (old : List ℕ) (used have : ℕ) (new : List ℕ) (r : ℕ) : Type 0 where
  pub count : r ≡ length (take (have - used) (drop used old))
  pub moved : new ≡ take (have - used) (drop used old) ++ drop r old
