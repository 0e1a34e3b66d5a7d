-- A host's calls, one after another.
--     session_law       what was left to tell is what was told, and what is left now
--     told_all          .. so where nothing is left to tell, all has been told
--     ended, stopped    Theorem's `whole_report` and `early_report`
-- Assumes nothing.
use Rattle.std.specs.Prelude.{ℕ, ◌-◌, ◌≤◌, ◌≡◌, refl, true, List, [], ◌++◌, length, take, drop}
use Rattle.std.proofs.Common.{ap, sym, ◌∙◌, true≢false, append-nil}
use Rattle.script.specs.Text.{lines}
use Rattle.script.specs.Report.{line_room, last_line, report}
use Rattle.script.specs.Run.{before_lines, bench_of, Told, told_first, silent, closing, from_names, rest, Fits, is_over, Finished, Session, begin, call, unbegun}
use Rattle.script.specs.declared.runner.Runner.{Runner}
use Rattle.script.specs.declared.runner.Ran.{Ran}
use Rattle.script.specs.Proof.Silent.{put_put, rest_heading, rest_none, over_silent}

record Reached (header : List (List ℕ)) (r : Runner) (s w : List ℕ) (r2 : Runner) (s2 : List ℕ) : Type 0 where
  pub known : List (List ℕ)
  pub fits : Fits known r2
  pub same : rest header r s ≡ told_first w (rest known r2 s2)

session_law : {r : Runner} {s : List ℕ} {r2 : Runner} {s2 w : List ℕ} → Session r s w r2 s2 → (header : List (List ℕ)) → Fits header r → Reached header r s w r2 s2
session_law begin header f = record { known = header; fits = f; same = refl }
session_law (call {w} {piece} {more} {old} {new} {r2} {end} {x} p e k) header f =
    let a = session_law p header f in
    let b = k.did.goes a.known a.fits in
    record {
      known = b.known;
      fits = b.fits;
      same = a.same ∙ ap (told_first w) (b.same more e) ∙ put_put w (take x.wrote new) (rest b.known x.runner (drop x.used piece ++ more));
    }

-- nothing has been done: all is left to tell
abbrev whole : List ℕ → Told
whole s = record { text = report s; bench = closing (take last_line (lines s)) }

rest_unbegun : (header : List (List ℕ)) (s : List ℕ) → rest header unbegun s ≡ whole s
unfolding report from_names
rest_unbegun header s = rest_heading header unbegun s refl

unbegun_fits : (header : List (List ℕ)) → Fits header unbegun
unbegun_fits header = record { opens = λ h. refl; knows = λ h. absurd (true≢false (ap before_lines h)) }

-- nothing is left to tell: all has been told
told_all : {s w left : List ℕ} {r : Runner} → Session unbegun s w r left → ((header : List (List ℕ)) → rest header r left ≡ silent (bench_of r))
    → (w ≡ report s) × (bench_of r ≡ closing (take last_line (lines s)))
told_all {s} {w} {left} {r} p none =
    let a = session_law p [] (unbegun_fits []) in
    let told : whole s ≡ record { text = w; bench = bench_of r } = sym (rest_unbegun [] s) ∙ a.same ∙ ap (told_first w) (none a.known) ∙ (rw append-nil) in (
      sym (ap (λ (t : Told). t.text) told),
      sym (ap (λ (t : Told). t.bench) told),
    )

pub ended : {s w piece : List ℕ} {r : Runner} → Session unbegun s w r piece
    → {old new : List ℕ} {x : Ran} → Finished r piece true old new x → line_room ≤ length old - x.wrote
    → (w ++ take x.wrote new ≡ report s) × (bench_of x.runner ≡ closing (take last_line (lines s)))
ended {s} {w} {piece} {r} p {x = x} k room =
    let q : Session unbegun s w r (piece ++ []) = rw (append-nil piece) p in
    told_all (call q (λ e. refl) k)
    (λ header. rest_none header x.runner (drop x.used piece ++ []) (λ o. true≢false (k.stops (rw (append-nil (drop x.used piece)) at o) room).0))

pub stopped : {s w left : List ℕ} {r : Runner} → Session unbegun s w r left → is_over r ≡ true
    → (w ≡ report s) × (bench_of r ≡ closing (take last_line (lines s)))
stopped {left = left} {r = r} p over = told_all p (λ header. over_silent r over header left)
