-- Each return of a step over one line meets the step's contract.
--     no_line, over_stops, line_waits     why a step that does nothing stops
--     names_step            the names line
--     found_step, none_step     the rest of a line that has been answered
--     line_step             a line of values
-- Assumes nothing.
use Rattle.std.specs.Prelude.{Option}
use Prim.Native.Nat.{ℕ, ◌+◌, ◌≤◌, ◌<◌}
use mathlib.Core.Path.{◌≡◌, refl, ap, sym, ◌∙◌}
use mathlib.Core.Bool.{Bool, true, false, ◌&&◌, ◌||◌, true≢false}
use mathlib.Core.List.{List}
use lib.Dec.{ltb}
use lib.ListN.{length, take, drop, length-drop}
use native.Mathlib.Omega.{arith}
use borrow.Author.Tests.{ltb-true, ltb-false}
use Rattle.script.specs.Line.{read_line}
use Rattle.script.specs.Report.{line_text, last_line}
use Rattle.script.specs.Private.Slices.{before}
use Rattle.bitset.specs.Tests.Laws.{clash}
use Rattle.script.specs.declared.runner.Phase.{Phase}
use Rattle.script.specs.declared.runner.Phase.TheVariants.{Heading, Names, Lines, Over}
use Rattle.script.specs.Run.{before_lines, Fits, Onward, Open, names_to_come, line_to_come, Stopped}
use Rattle.script.specs.Private.Steps.{after_line, text_of, Spoken, with_names, over, Named, good, bad, Stepped}
use Rattle.script.specs.declared.line.Line.{Line}
use Rattle.script.specs.declared.runner.Runner.{Runner}
use Rattle.script.specs.declared.runner.Said.{Said}
use Rattle.script.proofs.Texts.{line_length}
use Rattle.script.proofs.Lines.{found_short}
use Rattle.script.proofs.Onward.{begun, NamesGo, goes_good, goes_bad, names_whole, names_last, names_long, skip_found, skip_none, whole, last, long, skipping}
use Rattle.script.proofs.PieceLoop.{ran, worked_none, worked, stepped}

-- ---- a phase behind the heading
pub lines_later : {p : Phase} → p ≡ Lines → p ≡ Heading → ⊥
lines_later e h = let z : ◌≡◌ {A = ℕ} 0 1 = cc in omega arith

over_later : {p : Phase} → p ≡ Over → p ≡ Heading → ⊥
over_later e h = let z : ◌≡◌ {A = ℕ} 0 1 = cc in omega arith

-- ---- why a step stops
closed : (r : Runner) (s : List ℕ) (e : Bool) (n : ℕ) → (Open r s → ⊥) → Stopped r s e n
closed r s e n h o l = absurd (h o)

pub no_line : (r : Runner) (s : List ℕ) (e : Bool) (n : ℕ) → r.phase ≡ Lines → (r.done < last_line → 0 < length s → ⊥) → Stopped r s e n
no_line r s e n p h = closed r s e n shut
  where
    shut : Open r s → ⊥
    shut (names_to_come q) = begun p q
    shut (line_to_come q d l) = h d l

pub over_stops : (r : Runner) (s : List ℕ) (e : Bool) (n : ℕ) → r.phase ≡ Over → Stopped r s e n
over_stops r s e n p = closed r s e n shut
  where
    shut : Open r s → ⊥
    shut (names_to_come q) = clash _ q (ap before_lines p)
    shut (line_to_come q d l) = let z : ◌≡◌ {A = ℕ} 0 1 = cc in omega arith

-- .. nor is the line of values
pub line_waits : (r : Runner) (s : List ℕ) (e : Bool) (n k : ℕ) → r.phase ≡ Lines → length s ≤ k → k ≤ 255 → (e && ltb 0 k) ≡ false → Stopped r s e n
line_waits r s e n k p l m h (names_to_come q) room = absurd (begun p q)
line_waits r s e n k p l m h (line_to_come q d b) room = go e h
  where
    go : (e : Bool) → (e && ltb 0 k) ≡ false → (e ≡ false) × (length s ≤ 255) × (r.phase ≡ Heading → ⊥)
    go true h = absurd (none (ltb-false 0 k h))
      where
        none : k ≤ 0 → ⊥
        none z = omega arith
    go false h = (refl, omega arith, λ z. lines_later p z)

-- a flag and a test, as the code joins them
pub both_e : (e : Bool) (k : ℕ) → (e && ltb 0 k) ≡ true → (e ≡ true) × (0 < k)
both_e true k h = (refl, ltb-true 0 k h)
both_e false k h = absurd (true≢false (sym h))

-- ---- the names line
used_up : (s : List ℕ) (u : ℕ) → (u ≡ 0 → length s ≤ u) → u ≡ 0 → 0 < length (drop u s) → ⊥
used_up s u h z l = omega (arith, h z, length-drop u s)

module _ {e : Bool} {r : Runner} (l s old : List ℕ) (u : ℕ) (p : r.phase ≡ Names) (room : 12 ≤ length old) (h : u ≤ length s)
    (z : u ≡ 0 → length s ≤ u) (g : NamesGo e s l (drop u s)) where
  pub names_step : {new : List ℕ} {x : Said} → Named r l old new x → Stepped r s e old new (ran x.runner u x.wrote)
  names_step (good at o) =
      record {
        did = worked_none r (with_names r at) s e old u h (goes_good l s (drop u s) p g at o);
        begun = λ h. lines_later refl h;
        stops = λ k. no_line (with_names r at) (drop u s) e _ refl (λ d b. used_up s u z k b);
      }
  names_step (bad {new} {n} i q) =
      record {
        did = worked r (over r) s e old new (line_text 1 17) u n q (omega (arith, line_length 1 17)) h (goes_bad l s (drop u s) p g i);
        begun = λ h. over_later refl h;
        stops = λ k. over_stops (over r) (drop u s) e _ refl;
      }

-- ---- the rest of a line that has been answered
module _ {e : Bool} {r : Runner} (s old : List ℕ) (k : ℕ) (f : k ≡ length (before 10 s)) (p : r.phase ≡ Lines) (t : r.skip ≡ true) where
  pub found_step : k < length s
      → Stepped r s e old old (ran (record { bench = r.bench; at = r.at; phase = r.phase; done = r.done; skip = false }) (k + 1) 0)
  found_step l = stepped (worked_none r _ s e old (k + 1) (omega arith) (skip_found r s e k f p t l)) (λ h. lines_later p h) (omega arith)

  pub none_step : length s ≤ k → Stepped r s e old old (ran r k 0)
  none_step l =
      record {
        did = worked_none r r s e old k (found_short 10 s k f) (skip_none r s e k f p t l);
        begun = λ h. lines_later p h;
        stops = λ z. no_line r (drop k s) e _ p (λ d b. used_up s k (λ y. l) z b);
      }

-- ---- a line of values; f is what is done to the runner after it
line_phase : (r : Runner) (asked : Option Line) → (after_line r asked).phase ≡ r.phase
unfolding after_line
line_phase r asked = refl

text_length : (r : Runner) (asked : Option Line) → length (text_of r asked) ≤ 12
unfolding text_of
text_length r asked = line_length (r.done + 1) _

module _ {e : Bool} {r : Runner} (l s old : List ℕ) (u : ℕ) (p : r.phase ≡ Lines) (room : 12 ≤ length old) (h : u ≤ length s) (b : 0 < u)
    (f : Runner → Runner) (q : (r2 : Runner) → (f r2).phase ≡ r2.phase)
    (g : (header : List (List ℕ)) → Fits header r → Onward e header r s (text_of r (read_line header l)) (f (after_line r (read_line header l))) (drop u s)) where
  pub line_step : {new : List ℕ} {x : Said} → Spoken r l old new x → Stepped r s e old new (ran (f x.runner) u x.wrote)
  line_step {new} {x} k =
      let c : (f x.runner).phase ≡ Lines = q x.runner ∙ ap (λ (r2 : Runner). r2.phase) k.next ∙ line_phase r k.asked ∙ p in
      stepped
      (worked r (f x.runner) s e old new (text_of r k.asked) u x.wrote k.puts (omega (arith, text_length r k.asked)) h
      (λ header fits. rw (k.next, k.read header (fits.knows p)) (g header fits)))
      (λ h. lines_later c h) b

-- ---- the names line, as the code cuts it off: with its byte 10, or without it
long_or_last : (s : List ℕ) (e : Bool) (k : ℕ) → k ≡ length (before 10 s) → length s ≤ k → (e || ltb 255 k) ≡ true → NamesGo e s s (drop k s)
long_or_last s e k f l h = go e refl h
  where
    go : (d : Bool) → e ≡ d → (d || ltb 255 k) ≡ true → NamesGo e s s (drop k s)
    go true t h = names_last s e k f l t
    go false t h = names_long s e k f l (ltb-true 255 k h)

module _ {e : Bool} {r : Runner} (s old : List ℕ) (k : ℕ) (f : k ≡ length (before 10 s)) (p : r.phase ≡ Names) (room : 12 ≤ length old) where
  pub names_whole_step : k < length s → {new : List ℕ} {x : Said} → Named r (take k s) old new x → Stepped r s e old new (ran x.runner (k + 1) x.wrote)
  names_whole_step l n = names_step (take k s) s old (k + 1) p room (omega arith) (λ z. omega arith) (names_whole s e k f l) n

  pub names_cut_step : length s ≤ k → (e || ltb 255 k) ≡ true → {new : List ℕ} {x : Said} → Named r s old new x → Stepped r s e old new (ran x.runner k x.wrote)
  names_cut_step l h n = names_step s s old k p room (found_short 10 s k f) (λ z. l) (long_or_last s e k f l h) n

-- ---- a line of values, as the code cuts it off
module _ {e : Bool} {r : Runner} (s old : List ℕ) (k : ℕ) (f : k ≡ length (before 10 s)) (p : r.phase ≡ Lines) (t : r.skip ≡ false) (d : r.done < last_line)
    (room : 12 ≤ length old) where
  pub whole_step : k < length s → {new : List ℕ} {x : Said} → Spoken r (take k s) old new x → Stepped r s e old new (ran x.runner (k + 1) x.wrote)
  whole_step l n =
      line_step (take k s) s old (k + 1) p room (omega arith) (omega arith) (λ r2. r2) (λ r2. refl) (λ header fits. whole r s e k f p t d header fits l) n

  pub long_step : length s ≤ k → 255 < k → {new : List ℕ} {x : Said} → Spoken r s old new x → Stepped r s e old new (ran (skipping x.runner) k x.wrote)
  long_step l o n =
      line_step s s old k p room (found_short 10 s k f) (omega arith) skipping (λ r2. refl) (λ header fits. long r s e k f p t d header fits l o) n

  pub last_step : length s ≤ k → (e && ltb 0 k) ≡ true → {new : List ℕ} {x : Said} → Spoken r s old new x → Stepped r s e old new (ran x.runner k x.wrote)
  last_step l b n =
      let u = both_e e k b in
      line_step s s old k p room (found_short 10 s k f) u.1 (λ r2. r2) (λ r2. refl)
      (λ header fits. last r s e k f p t d header fits l (omega (arith, u.1, found_short 10 s k f)) u.0) n
