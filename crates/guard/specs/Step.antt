-- What a request answers, which role it tells and what it leaves behind, and a log of requests.
use Rattle.std.specs.Prelude.{Option, None}
use Rattle.std.specs.Prelude.{ℕ, Bool, not, cond, List, [], ◌∷◌, map, eqb}
use Rattle.bitset.specs.Tests.{every}
use Rattle.guard.specs.Label.{all_categories}
use Rattle.guard.specs.Tables.{read, write, role_for}
use Rattle.guard.specs.Sound.{sound_in}
use Rattle.guard.specs.Refusals.{◌when◌, first}
use Rattle.guard.specs.Requests.{field_in_range_in, rule_of}
use Rattle.guard.specs.Kind as kind
use Rattle.guard.specs.declared.Tables.{Tables}
use Rattle.guard.specs.declared.Request.{Request}
use Rattle.guard.specs.declared.Outcome.{Outcome}

-- Fields that a request does not use are not looked at.
unfoldable pub in_ranges_in : ℕ → Request → Bool
in_ranges_in width q = every (map (field_in_range_in width q) (rule_of q).uses)

-- 1 the tables are not sound. 2 a number is out of range. Refusals 1 and 2 apply to all nineteen.
unfoldable pub answer_in : ℕ → Tables → Request → ℕ
answer_in width t q = first (1 when not (sound_in width t) ∷ 2 when not (in_ranges_in width q) ∷ (rule_of q).refusals t q)

-- No number is given otherwise, and the tables are unchanged.
unfoldable pub next_in : ℕ → Tables → Request → Tables
next_in width t q = cond (eqb (answer_in width t q) 0) ((rule_of q).effect q t) t

-- Accepted openr and openw hand back, beside the 0, the role for read or write on the entity; all else hands back none.
unfoldable pub role_opening : Tables → Request → Option ℕ
role_opening t q =
    cond (eqb q.call kind.openr) (role_for t q.seat read q.entity)
    (cond (eqb q.call kind.openw) (role_for t q.seat write q.entity) None)

unfoldable pub role_told_in : ℕ → Tables → Request → Option ℕ
role_told_in width t q = cond (eqb (answer_in width t q) 0) (role_opening t q) None

-- A log is a list of requests, of any kind and any length, none at all included, done or refused. The first gets the
-- tables the log starts from, each later one those that the one before handed back.
unfoldable pub run_in : ℕ → Tables → List Request → Tables
run_in width t [] = t
run_in width t (q ∷ log) = run_in width (next_in width t q) log

-- what each request of a log gets, in order
unfoldable pub each_in : {A : Type 0} → ℕ → (Tables → Request → A) → Tables → List Request → List A
each_in width f t [] = []
each_in width f t (q ∷ log) = f t q ∷ each_in width f (next_in width t q) log

abbrev pub answers_in : ℕ → Tables → List Request → List ℕ
answers_in width = each_in width (answer_in width)

abbrev pub roles_told_in : ℕ → Tables → List Request → List (Option ℕ)
roles_told_in width = each_in width (role_told_in width)

-- ---- the rules in force: the width is `all_categories`
abbrev pub answer : Tables → Request → ℕ
answer = answer_in all_categories

abbrev pub next : Tables → Request → Tables
next = next_in all_categories

abbrev pub run : Tables → List Request → Tables
run = run_in all_categories

abbrev pub answers : Tables → List Request → List ℕ
answers = answers_in all_categories

abbrev pub role_told : Tables → Request → Option ℕ
role_told = role_told_in all_categories

abbrev pub roles_told : Tables → List Request → List (Option ℕ)
roles_told = roles_told_in all_categories

-- Each request takes the tables and hands back the tables with an answer.
unfoldable pub step : Tables → Request → Outcome
step t q = record { tables = next t q; answer = answer t q; role = role_told t q }
