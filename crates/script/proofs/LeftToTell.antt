-- What is left to tell: one call after another, and one line on. By phase, and where nothing is left: specs/Proof/Silent.
--     goes_nowhere, goes_then      no call, and one call after another
--     front                        what a store at the front leaves
--     line_on                      a line of values
--     names_on, names_end          the names line with more behind it, and at the end of the input
--     names_too_long, too_long     a line past 255 bytes
-- Assumes nothing.
use Rattle.std.specs.Prelude.{None}
use Prim.Native.Nat.{ℕ, suc, ◌+◌, ◌-◌, ◌≤◌, ◌<◌}
use mathlib.Core.Path.{◌≡◌, refl, ap, ◌∙◌}
use mathlib.Core.Bool.{Bool, true, false, cond}
use mathlib.Core.List.{List, [], ◌∷◌, ◌++◌}
use lib.ListN.{length, take, drop}
use lib.Seq.{sets-eq, take_at, drop_at}
use native.Mathlib.Nat.{zero-add}
use native.Mathlib.Omega.{arith}
use borrow.Author.Tests.{lt-leb}
use Rattle.bitset.specs.Tests.{every}
use Rattle.bitset.specs.Tests.Laws.{is_false}
use Rattle.script.specs.Text.{bytes, same, lines, values, after}
use Rattle.script.specs.Names.{names, among, is_names}
use Rattle.script.specs.Line.{read_line}
use Rattle.script.specs.Report.{Bench, answer_line, line_text, answered, last_line, first_bench, below}
use Rattle.script.specs.Private.Slices.{before, written, Put}
use Rattle.script.specs.Run.{Told, told_first, finally, closing, from_line, from_names, Goes}
use Rattle.script.specs.Proof.Silent.{put_put}
use Rattle.script.specs.declared.runner.Runner.{Runner}
use Rattle.script.proofs.Lines.{lines_first, before_whole, after_none}
use Rattle.script.proofs.NamesLineShort.{names_short}

-- ---- one call after another
pub goes_then : (e : Bool) (r r2 r3 : Runner) (s s2 s3 w v : List ℕ) → Goes e r s w r2 s2 → Goes e r2 s2 v r3 s3 → Goes e r s (w ++ v) r3 s3
goes_then e r r2 r3 s s2 s3 w v p q header f =
    let a = p header f in
    let b = q a.known a.fits in
    record {
      known = b.known;
      fits = b.fits;
      same = λ more h. a.same more h ∙ ap (told_first w) (b.same more h) ∙ put_put w v _;
    }

pub goes_nowhere : (e : Bool) (r : Runner) (s : List ℕ) → Goes e r s [] r s
goes_nowhere e r s header f = record { known = header; fits = f; same = λ more h. refl }

-- ---- a store at the front
pub record Front (old new w : List ℕ) (n : ℕ) : Type 0 where
  pub room : n ≤ length old
  pub frame : drop n new ≡ drop n old
  pub text : take n new ≡ w

pub front : {old new w : List ℕ} {n : ℕ} → Put old 0 w new n → length w ≤ length old → Front old new w n
unfolding written
front {old} {new} {w} {n} p l =
    let z : n ≡ length w = p.next ∙ zero-add (length w) in
    let o : new ≡ w ++ drop (length w) old = p.holds ∙ sets-eq w old 0 (rw zero-add l) ∙ (rw zero-add) in
    record {
      room = rw z l;
      frame = rw (o, z) (drop_at w (drop (length w) old) (length w) refl);
      text = rw (o, z) (take_at w (drop (length w) old) (length w) refl);
    }

-- ---- one line on
down : (n : ℕ) → n < last_line → last_line - n ≡ suc (last_line - (n + 1))
down n h = omega arith

pub line_on : (header : List (List ℕ)) (b : Bench) (n : ℕ) (s : List ℕ) → n < last_line → 0 < length s
    → from_line header b n s
    ≡ told_first (line_text (n + 1) (answer_line b (read_line header (before 10 s))).answer)
    (from_line header (answer_line b (read_line header (before 10 s))).bench (n + 1) (after 10 s))
unfolding from_line answered finally
line_on header b n s d l = rw (lines_first s l, down n d)

abbrev pub refused : Told
refused = record { text = line_text 1 17; bench = first_bench }

by_test : (t : Bool) (v w : List ℕ) (b c : Bench)
    → ◌≡◌ {A = Told} (record { text = cond t v w; bench = cond t b c }) (cond t (record { text = v; bench = b }) (record { text = w; bench = c }))
by_test true v w b c = refl
by_test false v w b c = refl

-- what is printed below the heading of lines, the first of which has the names
abbrev below_heading : List (List ℕ) → Told
below_heading ls = record { text = below ls; bench = closing ls }

below_first : (h : List ℕ) (ls : List (List ℕ))
    → below_heading (h ∷ ls) ≡ cond (is_names (values h)) (record { text = answered (values h) first_bench 2 ls; bench = finally (values h) first_bench ls }) refused
unfolding below closing
below_first h ls = by_test (is_names (values h)) _ _ _ _

first_line : (s : List ℕ) → 0 < length s → take last_line (lines s) ≡ before 10 s ∷ take (last_line - 1) (lines (after 10 s))
first_line s l = rw (lines_first s l)

pub names_on : (s : List ℕ) → 0 < length s
    → from_names s ≡ cond (is_names (values (before 10 s))) (from_line (values (before 10 s)) first_bench 1 (after 10 s)) refused
unfolding from_names from_line
names_on s l = ap below_heading (first_line s l) ∙ below_first (before 10 s) (take (last_line - 1) (lines (after 10 s)))

names_none : from_names [] ≡ refused
unfolding from_names below closing lines
names_none = refl

empty_bad : is_names (values []) ≡ false
unfolding is_names names values among same bytes every
empty_bad = refl

pub names_end : (s : List ℕ) → length s ≤ length (before 10 s) → from_names s ≡ cond (is_names (values s)) (from_line (values s) first_bench 1 []) refused
names_end [] m = names_none ∙ (rw (empty_bad))
names_end (b ∷ s) m = names_on (b ∷ s) (omega arith) ∙ (rw (before_whole 10 (b ∷ s) m, after_none 10 (b ∷ s) m))

pub names_too_long : (l : List ℕ) → 255 < length l → is_names (values l) ≡ false
names_too_long l h = is_false (is_names (values l)) (λ t. not_both (names_short l t))
  where
    not_both : length l ≤ 255 → ⊥
    not_both g = omega arith

-- a line past 255 bytes can't be read, whatever follows
pub too_long : (header : List (List ℕ)) (l : List ℕ) → 255 < length l → read_line header l ≡ None
unfolding read_line every
too_long header l h = rw (lt-leb (length l) 255 h)
