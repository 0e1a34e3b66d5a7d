-- A runner's steps, in the words in which the contracts of private functions are put: one line of values, the names line, and a
-- step, which does at most one line.
use Rattle.std.specs.Prelude.{ℕ, ◌+◌, ◌-◌, ◌≡◌, ◌≢◌, Bool, false, List, Option, length, drop}
use Rattle.script.specs.Text.{values}
use Rattle.script.specs.Names.{is_names, Ordered}
use Rattle.script.specs.Line.{read_line}
use Rattle.script.specs.Report.{unread_answer, answer_line, line_text}
use Rattle.script.specs.Run.{bench_of, Worked, Stopped}
use Rattle.script.specs.Private.Slices.{Put}
use Rattle.script.specs.declared.line.Line.{Line}
use Rattle.script.specs.declared.runner.Phase.TheVariants.{Heading, Lines, Over}
use Rattle.script.specs.declared.runner.Runner.{Runner}
use Rattle.script.specs.declared.runner.Said.{Said}
use Rattle.script.specs.declared.runner.Ran.{Ran}

-- ---- one line of values, by what it asks
unfoldable pub after_line : Runner → Option Line → Runner
after_line r asked =
    let said = answer_line (bench_of r) asked in
    record {
      bench = said.bench;
      at = r.at;
      phase = r.phase;
      done = r.done + 1;
      skip = r.skip;
    }

unfoldable pub text_of : Runner → Option Line → List ℕ
text_of r asked = line_text (r.done + 1) (answer_line (bench_of r) asked).answer

pub record Spoken (r : Runner) (l old new : List ℕ) (x : Said) : Type 0 where
  pub asked : Option Line
  pub read : (header : List (List ℕ)) → Ordered header r.at → asked ≡ read_line header l
  pub next : x.runner ≡ after_line r asked
  pub puts : Put old 0 (text_of r asked) new x.wrote

-- ---- the names line
abbrev pub with_names : Runner → List ℕ → Runner
with_names r at = record { bench = r.bench; at = at; phase = Lines; done = 1; skip = false }

abbrev pub over : Runner → Runner
over r = record { bench = r.bench; at = r.at; phase = Over; done = r.done; skip = r.skip }

pub data Named (r : Runner) (l old : List ℕ) : List ℕ → Said → Type 0 where
  good : (at : List ℕ) → Ordered (values l) at → Named r l old old (record { runner = with_names r at; wrote = 0 })
  bad : {new : List ℕ} {n : ℕ} → is_names (values l) ≡ false → Put old 0 (line_text 1 unread_answer) new n → Named r l old new (record { runner = over r; wrote = n })

-- ---- where a step of a call on a piece ends
pub record Stepped (r : Runner) (piece : List ℕ) (end : Bool) (old new : List ℕ) (x : Ran) : Type 0 where
  pub did : Worked r piece end old new x
  pub begun : x.runner.phase ≢ Heading
  pub stops : x.used ≡ 0 → Stopped x.runner (drop x.used piece) end (length old - x.wrote)
