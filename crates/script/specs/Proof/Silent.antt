-- What is left to tell, by phase, and where nothing is.
--     put_put                      one text before another
--     rest_heading, rest_names, rest_lines, rest_over     what is left to tell, by phase
--     line_none                    no line of values is left
--     rest_none                    nothing is left to be done
--     over_silent                  a run that is over, whatever input follows
-- Assumes nothing.
use Rattle.std.specs.Prelude.{ℕ, ◌-◌, ◌≤◌, ◌<◌, ◌≡◌, refl, Bool, true, false, cond, List, [], ◌∷◌, ◌++◌, length}
use Rattle.std.proofs.Common.{ap, sym, ◌∙◌, true≢false, append_assoc, arith, leb-true}
use Rattle.std.proofs.Math.Seq.{take-nil}
use Rattle.script.specs.Text.{lines, after}
use Rattle.script.specs.Report.{Bench, heading, answered, last_line}
use Rattle.script.specs.Run.{before_lines, bench_of, Told, told_first, silent, finally, from_line, from_names, rest_in, rest, is_over_in, is_over, Open, names_to_come, line_to_come}
use Rattle.script.specs.declared.runner.Phase.{Phase}
use Rattle.script.specs.declared.runner.Phase.TheVariants.{Heading, Names, Lines, Over}
use Rattle.script.specs.declared.runner.Runner.{Runner}

pub put_put : (w v : List ℕ) (p : Told) → told_first w (told_first v p) ≡ told_first (w ++ v) p
put_put w v p = rw append_assoc

-- ---- by phase
pub rest_heading : (header : List (List ℕ)) (r : Runner) (s : List ℕ) → r.phase ≡ Heading → rest header r s ≡ told_first heading (from_names s)
unfolding rest_in
rest_heading header r s p = rw p

pub rest_names : (header : List (List ℕ)) (r : Runner) (s : List ℕ) → r.phase ≡ Names → rest header r s ≡ from_names s
unfolding rest_in
rest_names header r s p = rw p

pub rest_lines : (header : List (List ℕ)) (r : Runner) (s : List ℕ) → r.phase ≡ Lines
    → rest header r s ≡ from_line header (bench_of r) r.done (cond r.skip (after 10 s) s)
unfolding rest_in
rest_lines header r s p = rw p

pub rest_over : (header : List (List ℕ)) (r : Runner) (s : List ℕ) → r.phase ≡ Over → rest header r s ≡ silent (bench_of r)
unfolding rest_in
rest_over header r s p = rw p

-- ---- where nothing is left
pub line_none : (header : List (List ℕ)) (b : Bench) (n : ℕ) (s : List ℕ) → (n < last_line → 0 < length s → ⊥) → from_line header b n s ≡ silent b
unfolding from_line answered finally lines
line_none header b n [] h = rw (take-nil (last_line - n))
line_none header b n (c ∷ s) h =
    let g : n < last_line → ⊥ = λ d. h d (omega arith) in
    let z : last_line - n ≡ 0 = omega arith in
    rw z

empty_rest : (t : Bool) → length (cond t (after 10 []) []) ≡ 0
unfolding after
empty_rest true = refl
empty_rest false = refl

pub rest_none : (header : List (List ℕ)) (r : Runner) (s : List ℕ) → (Open r s → ⊥) → rest header r s ≡ silent (bench_of r)
rest_none header r s h = go r.phase refl
  where
    lines_none : r.phase ≡ Lines → (s2 : List ℕ) → s ≡ s2 → r.done < last_line → 0 < length (cond r.skip (after 10 s2) s2) → ⊥
    lines_none p [] z d l = omega (arith, empty_rest r.skip)
    lines_none p (b ∷ s2) z d l = h (line_to_come p d (rw z (omega arith)))

    go : (p : Phase) → r.phase ≡ p → rest header r s ≡ silent (bench_of r)
    go Heading e = absurd (h (names_to_come (ap before_lines e)))
    go Names e = absurd (h (names_to_come (ap before_lines e)))
    go Lines e = rest_lines header r s e ∙ line_none header (bench_of r) r.done _ (lines_none e s refl)
    go Over e = rest_over header r s e

lines_over : (r : Runner) → r.phase ≡ Lines → last_line ≤ r.done → (header : List (List ℕ)) (s : List ℕ) → rest header r s ≡ silent (bench_of r)
lines_over r p h header s = rest_lines header r s p ∙ line_none header (bench_of r) r.done (cond r.skip (after 10 s) s) (λ d l. past d)
  where
    past : r.done < last_line → ⊥
    past d = omega arith

pub over_silent : (r : Runner) → is_over r ≡ true → (header : List (List ℕ)) (s : List ℕ) → rest header r s ≡ silent (bench_of r)
unfolding is_over_in
over_silent r h header s = go r.phase refl h
  where
    go : (p : Phase) → r.phase ≡ p → is_over_in p r.done ≡ true → rest header r s ≡ silent (bench_of r)
    go Heading e h = absurd (true≢false (sym h))
    go Names e h = absurd (true≢false (sym h))
    go Lines e h = lines_over r e (leb-true _ _ h) header s
    go Over e h = rest_over header r s e
