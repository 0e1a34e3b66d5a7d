-- The report: the bytes of the whole output, from the bytes of a whole input.
use Rattle.std.specs.Prelude.{ℕ, ◌+◌, Bool, true, false, cond, List, [], ◌∷◌, ◌++◌, Option, Some, None, leb, ltb, set, take, replicate}
use Rattle.bitset.specs.Tests.{every}
use Rattle.guard.specs.Level.{user_count, top_level}
use Rattle.guard.specs.Label.{label, label_in_range}
use Rattle.guard.specs.Tables.{edition1, no_user}
use Rattle.guard.specs.Fresh.{fresh}
use Rattle.guard.specs.Step.{answer, next}
use Rattle.guard.specs.declared.Tables.{Tables}
use Rattle.script.specs.Text.{bytes, lines, values, decimal}
use Rattle.script.specs.Names.{is_names}
use Rattle.script.specs.Line.{read_line}
use Rattle.script.specs.declared.line.Line.{Line}
pub use Rattle.script.specs.declared.reply.Bench.{Bench}
pub use Rattle.script.specs.declared.reply.Answered.{Answered}
use Rattle.script.specs.declared.line.Line.TheVariants.{Ask, SetUser}
use Rattle.script.specs.declared.line.UserRecord.{UserRecord}

-- ---- the bench between two lines, and after a line with its answer, are the records Bench and Answered of src/reply.rt
-- 17 (program only) a line that can't be read; it .. change[s] nothing.
abbrev pub unread_answer : ℕ
unread_answer = 17

abbrev pub unread : Bench → Answered
unread b = record { bench = b; answer = unread_answer }

-- The word `user` sets a user's clearance and ceiling; .. the last for a user holds, and users not set are 0 throughout.
unfoldable pub with_user : Tables → UserRecord → Tables
with_user t u =
    record {
      users = set t.users u.user (record { ceiling = u.ceiling; clearance = label u.level u.cats });
      sessions = t.sessions;
      roles = t.roles;
      entities = t.entities;
      edition = t.edition;
    }

-- Its ranges give 2, with nothing set.
unfoldable pub user_in_ranges : UserRecord → Bool
user_in_ranges u = every (ltb u.user user_count ∷ label_in_range (label u.level u.cats) ∷ leb u.ceiling top_level ∷ [])

-- it is allowed only before any other word: `user` after a readable line with another word gives 17
unfoldable pub answer_line : Bench → Option Line → Answered
answer_line b (Some (Ask q)) = record { bench = record { tables = next b.tables q; shut = true }; answer = answer b.tables q }
answer_line b (Some (SetUser u)) =
    cond b.shut (unread b)
    (cond (user_in_ranges u)
    (record { bench = record { tables = with_user b.tables u; shut = false }; answer = 0 })
    (record { bench = b; answer = 2 }))
answer_line b None = unread b

-- ---- Output is a line of names, then for each line its number, counting from the names line as 1, and its answer; each
-- output line, the last too, ends with byte 10.
unfoldable pub heading : List ℕ
heading = bytes "line answer" ++ (10 ∷ [])

unfoldable pub line_text : ℕ → ℕ → List ℕ
line_text n a = decimal n ++ (32 ∷ (decimal a ++ (10 ∷ [])))

-- two numbers of at most five digits, a space and byte 10
abbrev pub line_room : ℕ
line_room = 12

-- the lines of values from number n on, under the names of the header
unfoldable pub answered : List (List ℕ) → Bench → ℕ → List (List ℕ) → List ℕ
answered header b n [] = []
answered header b n (l ∷ ls) =
    let said = answer_line b (read_line header l) in
    line_text n said.answer ++ answered header said.bench (n + 1) ls

-- Lines after 65,535 are not read.
abbrev pub last_line : ℕ
last_line = 65535

-- the program uses [edition] 1
abbrev pub first_bench : Bench
first_bench = record { tables = fresh (replicate user_count no_user) edition1; shut = false }

-- A bad or missing first line prints `1 17` below the output's names and ends.
unfoldable pub below : List (List ℕ) → List ℕ
below [] = line_text 1 unread_answer
below (h ∷ ls) = cond (is_names (values h)) (answered (values h) first_bench 2 ls) (line_text 1 unread_answer)

unfoldable pub report : List ℕ → List ℕ
report input = heading ++ below (take last_line (lines input))
