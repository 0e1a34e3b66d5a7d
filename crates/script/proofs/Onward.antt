-- Each thing that a step can do keeps what is left to tell.
--     goes_heading                 the heading
--     goes_good, goes_bad          the names line
--     names_whole, names_last, names_long     .. with its byte 10, at the end of the input, past 255 bytes
--     skip_found, skip_none        the rest of a line that has been answered
--     whole, last, long            a line of values: with its byte 10, at the end of the input, past 255 bytes
-- Assumes nothing.
use Rattle.std.specs.Prelude.{Option, None}
use Prim.Native.Nat.{ℕ, ◌+◌, ◌≤◌, ◌<◌}
use mathlib.Core.Path.{◌≡◌, refl, ap, sym, ◌∙◌}
use mathlib.Core.Bool.{Bool, true, false, cond}
use mathlib.Core.List.{List, [], ◌++◌, append-nil}
use lib.ListN.{length, take, drop, length-append, drop_of_length-le}
use native.Mathlib.Numerals.{add-one}
use native.Mathlib.Omega.{arith}
use Rattle.script.specs.Text.{values, after}
use Rattle.script.specs.Names.{is_names, Ordered}
use Rattle.script.specs.Line.{read_line}
use Rattle.script.specs.Report.{Bench, heading, line_text, last_line, first_bench}
use Rattle.script.specs.Private.Slices.{before}
use Rattle.bitset.specs.Tests.Laws.{clash}
use Rattle.script.specs.declared.runner.Phase.{Phase}
use Rattle.script.specs.declared.runner.Phase.TheVariants.{Heading, Names, Lines, Over}
use Rattle.script.specs.Run.{before_lines, bench_of, told_first, from_line, from_names, rest_in, rest, Fits, Onward, Goes}
use Rattle.script.specs.Private.Steps.{after_line, text_of, with_names, over}
use Rattle.script.specs.declared.line.Line.{Line}
use Rattle.script.specs.declared.runner.Runner.{Runner}
use Rattle.script.specs.Proof.Silent.{rest_heading, rest_names, rest_lines, rest_over}
use Rattle.script.proofs.ValuesInTurn.{before_most, before_take, after_drop}
use Rattle.script.proofs.Lines.{before_append, after_append, before_all, after_all, before_whole, after_none}
use Rattle.script.proofs.LeftToTell.{line_on, refused, names_on, names_end, names_too_long, too_long}

-- ---- the heading
over_lines : Over ≡ Lines → ⊥
over_lines h = let z : ◌≡◌ {A = ℕ} 0 1 = cc in omega arith

-- lines of values have begun
pub begun : {p : Phase} → p ≡ Lines → before_lines p ≡ true → ⊥
begun e h = clash _ h (ap before_lines e)

abbrev pub headed : Runner → Runner
headed r = record { bench = r.bench; at = r.at; phase = Names; done = r.done; skip = r.skip }

pub goes_heading : (e : Bool) (r : Runner) (s : List ℕ) → r.phase ≡ Heading → Goes e r s heading (headed r) s
goes_heading e r s p header f =
    record {
      known = header;
      fits = record { opens = λ h. f.opens (ap before_lines p); knows = λ h. absurd (begun h refl) };
      same = λ more h. rest_heading header r (s ++ more) p ∙ ap (told_first heading) (sym (rest_names header (headed r) (s ++ more) refl));
    }

-- ---- the names line l of s, and s2 after it
abbrev pub NamesGo : Bool → List ℕ → List ℕ → List ℕ → Type 0
NamesGo e s l s2 =
    (more : List ℕ) → (e ≡ true → more ≡ [])
    → from_names (s ++ more) ≡ cond (is_names (values l)) (from_line (values l) first_bench 1 (s2 ++ more)) refused

module _ {e : Bool} {r : Runner} (l s s2 : List ℕ) (p : r.phase ≡ Names) (g : NamesGo e s l s2) where
  pub goes_good : (at : List ℕ) → Ordered (values l) at → Goes e r s [] (with_names r at) s2
  goes_good at o header f =
      let b : bench_of r ≡ first_bench = f.opens (ap before_lines p) in
      record {
        known = values l;
        fits = record { opens = λ h. absurd (begun refl h); knows = λ h. o };
        same = λ more h.
            rest_names header r (s ++ more) p ∙ g more h ∙ (rw o.good)
            ∙ ap (λ (b : Bench). from_line (values l) b 1 (s2 ++ more)) (sym b)
            ∙ sym (rest_lines (values l) (with_names r at) (s2 ++ more) refl);
      }

  pub goes_bad : is_names (values l) ≡ false → Goes e r s (line_text 1 17) (over r) s2
  goes_bad n header f =
      let b : bench_of r ≡ first_bench = f.opens (ap before_lines p) in
      record {
        known = header;
        fits = record { opens = λ h. absurd (clash false h refl); knows = λ h. absurd (over_lines h) };
        same = λ more h.
            rest_names header r (s ++ more) p ∙ g more h ∙ (rw (n, rest_over header (over r) (s2 ++ more) refl, b, append-nil));
      }

-- ---- a line of values
rest_line : (header : List (List ℕ)) (r : Runner) (s : List ℕ) → r.phase ≡ Lines → r.skip ≡ false → r.done < last_line → 0 < length s
    → rest header r s ≡ told_first (text_of r (read_line header (before 10 s))) (rest header (after_line r (read_line header (before 10 s))) (after 10 s))
unfolding rest_in text_of after_line
rest_line header r s p t d n = rw (p, t) (line_on header (bench_of r) r.done s d n)

line_fits : (header : List (List ℕ)) (r : Runner) (asked : Option Line) → r.phase ≡ Lines → Fits header r → Fits header (after_line r asked)
unfolding after_line
line_fits header r asked p f = record { opens = λ h. absurd (begun p h); knows = λ h. f.knows p }

abbrev pub skipping : Runner → Runner
skipping r = record { bench = r.bench; at = r.at; phase = r.phase; done = r.done; skip = true }

skip_on : (header : List (List ℕ)) (r : Runner) (asked : Option Line) (s : List ℕ) → r.phase ≡ Lines → r.skip ≡ false
    → rest header (after_line r asked) (after 10 s) ≡ rest header (skipping (after_line r asked)) s
unfolding rest_in after_line
skip_on header r asked s p t = rw (p, t)

-- ---- a piece whose first line has k bytes
module _ (s : List ℕ) (e : Bool) (k : ℕ) (f : k ≡ length (before 10 s)) where
  -- the names line: with its byte 10, at the end of the input, past 255 bytes
  pub names_whole : k < length s → NamesGo e s (take k s) (drop (k + 1) s)
  names_whole l more h =
      let m : length (before 10 s) < length s = rw f at l in
      names_on (s ++ more) (omega (arith, length-append s more))
      ∙ (rw (before_append 10 more s m, after_append 10 more s m, add-one, f, before_take 10 s, after_drop 10 s))

  pub names_last : length s ≤ k → e ≡ true → NamesGo e s s (drop k s)
  names_last l t more h = rw (h t, append-nil s, append-nil (drop k s), drop_of_length-le s l) (names_end s (rw f at l))

  pub names_long : length s ≤ k → 255 < k → NamesGo e s s (drop k s)
  names_long l o more h =
      let m : length s ≤ length (before 10 s) = rw f at l in
      let n : 255 < length s = omega (arith, before_most 10 s) in
      names_on (s ++ more) (omega (arith, length-append s more))
      ∙ (rw (before_all 10 more s m, names_too_long s n, names_too_long (s ++ before 10 more) (omega (arith, length-append s (before 10 more)))))

module _ (r : Runner) (s : List ℕ) (e : Bool) (k : ℕ) (f : k ≡ length (before 10 s)) where
  -- the rest of a line that has been answered
  pub skip_found : r.phase ≡ Lines → r.skip ≡ true → k < length s
      → Goes e r s [] (record { bench = r.bench; at = r.at; phase = r.phase; done = r.done; skip = false }) (drop (k + 1) s)
  skip_found p t l header fits =
      let m : length (before 10 s) < length s = rw f at l in
      record {
        known = header;
        fits = record { opens = fits.opens; knows = fits.knows };
        same = λ more h.
            rest_lines header r (s ++ more) p
            ∙ (rw (t, after_append 10 more s m, add-one, f, after_drop 10 s))
            ∙ sym (rest_lines header _ (drop (k + 1) s ++ more) p);
      }

  pub skip_none : r.phase ≡ Lines → r.skip ≡ true → length s ≤ k → Goes e r s [] r (drop k s)
  skip_none p t l header fits =
      let m : length s ≤ length (before 10 s) = rw f at l in
      record {
        known = header;
        fits = fits;
        same = λ more h.
            rest_lines header r (s ++ more) p
            ∙ (rw (t, after_all 10 more s m, drop_of_length-le s l))
            ∙ sym (rest_lines header r (drop k s ++ more) p);
      }

  -- a line of values
  module _ (p : r.phase ≡ Lines) (t : r.skip ≡ false) (d : r.done < last_line) (header : List (List ℕ)) (fits : Fits header r) where
    pub whole : k < length s
        → Onward e header r s (text_of r (read_line header (take k s))) (after_line r (read_line header (take k s))) (drop (k + 1) s)
    whole l =
        let m : length (before 10 s) < length s = rw f at l in
        record {
          known = header;
          fits = line_fits header r (read_line header (take k s)) p fits;
          same = λ more h.
              rest_line header r (s ++ more) p t d (omega (arith, length-append s more))
              ∙ (rw (before_append 10 more s m, after_append 10 more s m, add-one, f, before_take 10 s, after_drop 10 s));
        }

    pub last : length s ≤ k → 0 < length s → e ≡ true
        → Onward e header r s (text_of r (read_line header s)) (after_line r (read_line header s)) (drop k s)
    last l n u =
        let m : length s ≤ length (before 10 s) = rw f at l in
        record {
          known = header;
          fits = line_fits header r (read_line header s) p fits;
          same = λ more h.
              rw (h u, append-nil s, append-nil (drop k s), drop_of_length-le s l)
              (rest_line header r s p t d n ∙ (rw (before_whole 10 s m, after_none 10 s m)));
        }

    pub long : length s ≤ k → 255 < k
        → Onward e header r s (text_of r (read_line header s)) (skipping (after_line r (read_line header s))) (drop k s)
    long l o =
        let m : length s ≤ length (before 10 s) = rw f at l in
        let n : 255 < length s = omega (arith, before_most 10 s) in
        record {
          known = header;
          fits = let g = line_fits header r (read_line header s) p fits in record { opens = g.opens; knows = g.knows };
          same = λ more h.
              rest_line header r (s ++ more) p t d (omega (arith, length-append s more))
              ∙ (rw (before_all 10 more s m, after_all 10 more s m, too_long header s n, too_long header (s ++ before 10 more) (omega (arith, length-append s (before 10 more))), drop_of_length-le s l)
              (ap (told_first (text_of r None)) (skip_on header r None more p t)));
        }
