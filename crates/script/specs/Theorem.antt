-- Whole runs of the request program, as two statements: what a host is handed is the report of its input, however it cuts the
-- input into pieces and whatever room for output it gives each time. They are stated over report (Report) and over what a host
-- has who called the runner (Run): Session, its calls so far; Finished, the contract of `runner::run`; is_over, that of
-- `Runner::is_over`. Beside the text each says which bench the runner has then: the one after all lines. Assumes nothing.
use Rattle.std.specs.Prelude.{ℕ, ◌-◌, ◌≤◌, ◌≡◌, true, List, ◌++◌, length, take}
use Rattle.script.specs.Text.{lines}
use Rattle.script.specs.Report.{line_room, last_line, report}
use Rattle.script.specs.Run.{bench_of, closing, is_over, Finished, Session, unbegun}
use Rattle.script.specs.declared.runner.Runner.{Runner}
use Rattle.script.specs.declared.runner.Ran.{Ran}
use Rattle.script.specs.Proof.Sessions.{ended, stopped}

-- A run to the end of the input.
pub whole_report :
    -- For every input s, let a host have made calls that handed out w in all and left `piece` of s,
    {s w piece : List ℕ} {r : Runner} → Session unbegun s w r piece
    -- and one more on all of `piece`, which says that the input ends there, and ends with room for a line.
    → {old new : List ℕ} {x : Ran} → Finished r piece true old new x → line_room ≤ length old - x.wrote
    -- Then what they handed out together is the report of s.
    → (w ++ take x.wrote new ≡ report s) × (bench_of x.runner ≡ closing (take last_line (lines s)))
whole_report = ended

-- A run that stops early, since `Runner::is_over` says that it is over.
pub early_report :
    -- For every input s, let a host have made calls that handed out w in all and left `left` of s: what it keeps of the pieces
    -- that it handed over, and behind them all that it has not read, whatever that is.
    {s w left : List ℕ} {r : Runner} → Session unbegun s w r left
    -- If the run is over,
    → is_over r ≡ true
    -- then what they handed out is the report of s.
    → (w ≡ report s) × (bench_of r ≡ closing (take last_line (lines s)))
early_report = stopped
