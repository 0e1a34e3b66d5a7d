-- The answer to a line, by the tests that the code makes.
--     outside                    the code's test of a user's record
--     inside                     what holds of the numbers where it fails
--     set_shut, set_outside, set_inside     the three answers to the word `user`
--     ask_said                   the answer to a request
--     nobody_built               the tables that a run opens with
--     said_next, said_text     the runner and the text after an answer
-- Assumes nothing.
use Rattle.std.specs.Prelude.{Option, Some, None}
use Prim.Native.Nat.{ℕ, ◌+◌, ◌≤◌, ◌<◌}
use mathlib.Core.Path.{◌≡◌, refl}
use mathlib.Core.Bool.{Bool, true, false, cond, ◌||◌, true≢false}
use mathlib.Core.List.{List, [], ◌∷◌}
use lib.Dec.{leb, ltb}
use lib.ListN.{replicate}
use borrow.Author.Tests.{ltb-true, ltb-false, leb-true, leb-false, lt-ltb, le-ltb, lt-leb, le-leb}
use Rattle.bitset.specs.Tests.{every}
use Rattle.bitset.specs.Tests.Laws.{every_e, is_false, clash}
use Rattle.guard.specs.Label.{all_categories, label, label_in_range, label_in_range_in}
use Rattle.guard.specs.Level.{user_count}
use Rattle.guard.specs.Tables.{edition1, no_user}
use Rattle.guard.specs.Sound.{users_in_range, edition_in_range}
use Rattle.guard.specs.Fresh.{fresh, build}
use Rattle.guard.specs.Step.{step}
use Rattle.guard.specs.declared.Request.{Request}
use Rattle.guard.specs.declared.Outcome.{Outcome}
use Rattle.script.specs.Report.{Bench, Answered, unread, with_user, user_in_ranges, answer_line, line_text}
use Rattle.script.specs.Private.Slices.{Put}
use Rattle.script.specs.Run.{bench, bench_of}
use Rattle.script.specs.Private.Steps.{after_line, text_of}
use Rattle.script.specs.declared.line.Line.{Line}
use Rattle.script.specs.declared.line.UserRecord.{UserRecord}
use Rattle.script.specs.declared.line.Line.TheVariants.{Ask, SetUser}
use Rattle.script.specs.declared.runner.Runner.{Runner}

abbrev pub outside : UserRecord → Bool
outside u = leb 16 u.user || (ltb 3 u.level || (ltb all_categories u.cats || ltb 3 u.ceiling))

pub record Inside (u : UserRecord) : Type 0 where
  pub user_in : u.user < 16
  pub level_in : u.level ≤ 3
  pub cats_in : u.cats ≤ all_categories
  pub ceiling_in : u.ceiling ≤ 3

abbrev built : ℕ → Outcome
built n = record { tables = fresh (replicate user_count no_user) edition1; answer = n; role = None }

module _ (u : UserRecord) where
  pub inside : outside u ≡ false → Inside u
  inside h = go (leb 16 u.user) refl (ltb 3 u.level) refl (ltb all_categories u.cats) refl (ltb 3 u.ceiling) refl h
    where
      go : (a : Bool) → leb 16 u.user ≡ a → (b : Bool) → ltb 3 u.level ≡ b → (c : Bool) → ltb all_categories u.cats ≡ c → (d : Bool) → ltb 3 u.ceiling ≡ d
          → (a || (b || (c || d))) ≡ false → Inside u
      go false a false b false c false d h =
          record { user_in = leb-false _ _ a; level_in = ltb-false _ _ b; cats_in = ltb-false _ _ c; ceiling_in = ltb-false _ _ d }
      go false a false b false c true d h = absurd (true≢false h)
      go false a false b true c d z h = absurd (true≢false h)
      go false a true b c z d y h = absurd (true≢false h)
      go true a b x c z d y h = absurd (true≢false h)

  in_ranges_lem : Inside u → user_in_ranges u ≡ true
  unfolding user_in_ranges label_in_range_in every
  in_ranges_lem i = rw (lt-ltb u.user 16 i.user_in, le-leb u.level 3 i.level_in, le-leb u.cats all_categories i.cats_in, le-leb u.ceiling 3 i.ceiling_in)

  within_ranges : user_in_ranges u ≡ true → outside u ≡ false
  unfolding user_in_ranges label_in_range_in
  within_ranges h =
      let t = every_e (ltb u.user 16 ∷ label_in_range (label u.level u.cats) ∷ leb u.ceiling 3 ∷ []) h in
      let l = every_e (leb u.level 3 ∷ leb u.cats all_categories ∷ []) t.1.0 in
      rw (
        lt-leb 16 u.user (ltb-true u.user 16 t.0),
        le-ltb 3 u.level (leb-true u.level 3 l.0),
        le-ltb all_categories u.cats (leb-true u.cats all_categories l.1.0),
        le-ltb 3 u.ceiling (leb-true u.ceiling 3 t.1.1.0),
      )

  module _ (b : Bench) where
    pub set_shut : b.shut ≡ true → answer_line b (Some (SetUser u)) ≡ unread b
    unfolding answer_line
    set_shut s = rw s

    pub set_outside : b.shut ≡ false → outside u ≡ true
        → answer_line b (Some (SetUser u)) ≡ record { bench = b; answer = 2 }
    unfolding answer_line
    set_outside s o = rw (s, is_false (user_in_ranges u) (λ h. clash _ o (within_ranges h)))

    pub set_inside : b.shut ≡ false → Inside u
        → answer_line b (Some (SetUser u))
        ≡ record { bench = bench (with_user b.tables u) b.shut; answer = 0 }
    unfolding answer_line
    set_inside s i = rw (s, in_ranges_lem i)

pub ask_said : (b : Bench) (q : Request) (o : Outcome) → o ≡ step b.tables q
    → ◌≡◌ {A = Answered} (record { bench = bench o.tables true; answer = o.answer }) (answer_line b (Some (Ask q)))
unfolding answer_line step
ask_said b q o h = rw h

module _ (r : Runner) (a : Answered) (asked : Option Line) (h : a ≡ answer_line (bench_of r) asked) where
  pub said_next : ◌≡◌ {A = Runner}
      (record { bench = a.bench; at = r.at; phase = r.phase; done = r.done + 1; skip = r.skip })
      (after_line r asked)
  unfolding after_line
  said_next = rw (← h)

  pub said_text : {old new : List ℕ} {n : ℕ} → Put old 0 (line_text (r.done + 1) a.answer) new n → Put old 0 (text_of r asked) new n
  unfolding text_of
  said_text p = rw (← h) p

-- ---- the tables that a run opens with
pub nobody_built : (build (replicate user_count no_user) edition1).tables ≡ fresh (replicate user_count no_user) edition1
unfolding build
nobody_built = go (every (users_in_range (replicate user_count no_user) ∷ edition_in_range edition1 ∷ []))
  where
    go : (b : Bool) → (cond b (built 0) (built 2)).tables ≡ fresh (replicate user_count no_user) edition1
    go true = refl
    go false = refl
