-- The output of a batch, and the step over it.
--     along, line_few     what the writer of a line asks and takes
--     asked_none, asked_below     how many answers are read
--     first_left, asks_one, asks_none     which answer a line has
--     texts_none, texts_more     what is written: nothing, one line more
--     ran_tables, ran_answers     what the guard hands back for a batch
--     fits_in, batch_done    the step
-- Assumes nothing.
use Prim.Native.Nat.{ℕ, ◌+◌, ◌-◌, ◌*◌, ◌/◌, ◌≤◌, ◌<◌}
use mathlib.Core.Path.{◌≡◌, refl, ap, ap₂, sym, ◌∙◌}
use mathlib.Core.Bool.{Bool, true, false, cond}
use mathlib.Core.List.{List, [], ◌∷◌, ◌++◌, append_assoc}
use lib.ListN.{length, take, drop, get_or, length-drop, length-take}
use lib.Seq.{sets, take-suc, drop-drop, sets-eq, length-take-le}
use native.Mathlib.Numerals.{add-one}
use native.Mathlib.Nat.{zero-add, add-zero}
use denote.Bor.{Bor}
use Rattle.std.specs.Prelude.{Option, Some, None}
use Rattle.std.specs.Option.{MatchOption, unwrap_or}
use Rattle.std.proofs.lemmas.List.{drop_more}
use native.Mathlib.Omega.{arith}
use lib.Dec.{leb}
use borrow.Author.Tests.{le-leb}
use borrow.Rule.Slice.PartMut.{put_mid}
use Rattle.guard.specs.Step.{answer, run, answers}
use Rattle.guard.specs.Batch.{row_length, request_at, requests, shorter, batch_length, batch_count, batch, RunsBatch}
use Rattle.guard.specs.declared.Tables.{Tables}
use Rattle.guard.specs.declared.Request.{Request}
use Rattle.guard.proofs.Filling.{length_tabulate}
use Rattle.guard.proofs.Logs.{length_each}
use Rattle.script.specs.Report.{line_text, last_line}
use Rattle.script.specs.Private.Slices.{written, Put}
use Rattle.script.specs.Run.{bench, bench_of, told_first, from_line, rest, Goes}
use Rattle.script.specs.Private.Steps.{Stepped}
use Rattle.script.specs.Private.LineBatch.{batch_lines, one, asked, said, texts, Most, Batched}
use Rattle.script.specs.declared.runner.Runner.{Runner}
use Rattle.script.specs.declared.batch.Gathered.{Gathered}
use Rattle.script.specs.Proof.Silent.{rest_lines}
use Rattle.script.proofs.Texts.{put_nil, put_then, line_length}
use Rattle.script.proofs.ValuesInTurn.{to_end}
use Rattle.script.proofs.RequestRows.{requests_take}
use Rattle.script.specs.declared.runner.Phase.TheVariants.{Lines}
use Rattle.script.proofs.Onward.{begun}
use Rattle.script.proofs.StepReturns.{lines_later}
use Rattle.script.proofs.PieceLoop.{ran, worked, stepped, tail_back}
use Rattle.script.proofs.LinesInBatch.{asked_snoc, asked_few, texts_snoc, texts_given, texts_length}

-- ---- one line more
pub texts_none : {l : List ℕ} (n : ℕ) (given : List ℕ) → Put l 0 (texts n [] given) l 0
unfolding texts
texts_none n given = put_nil

pub along : {k : ℕ} (n i : ℕ) → k ≡ n + i → n + (i + 1) ≡ k + 1
along n i e = omega arith

pub line_few : {l new : List ℕ} {r : ℕ} (k a : ℕ) → Put l 0 (line_text k a) new r → r ≤ 12
line_few k a p = omega (arith, p.next, line_length k a)

put_end : {out ys line : List ℕ} {w k : ℕ} → w ≤ length out → length line ≤ length out - w
    → Put (take (length out - w) (drop w out)) 0 line ys k → Put out w line (put_mid w (length out - w) out ys) (w + k)
unfolding written
put_end {out} {ys} {line} {w} {k} h l p =
    let here : ys ≡ line ++ drop (length line) (drop w out)
    = p.holds ∙ ap (λ (v : List ℕ). sets v 0 line) (to_end w out) ∙ sets-eq line (drop w out) 0 (omega (arith, length-drop w out)) ∙ (rw zero-add) in
    record {
      holds = tail_back w out ys ∙ ap (λ (v : List ℕ). take w out ++ v) here
          ∙ sym (append_assoc (take w out) line (drop (length line) (drop w out)))
          ∙ ap (λ (v : List ℕ). (take w out ++ line) ++ v) (drop-drop (length line) w out) ∙ sym (sets-eq line out w (omega arith));
      next = ap (λ (n : ℕ). w + n) (p.next ∙ zero-add (length line));
    }

pub asked_none : 0 ≡ asked []
unfolding asked
asked_none = refl

pub asked_below : (marks : List Bool) (i : ℕ) {j : ℕ} → j ≡ asked (take i marks) → j ≤ i
asked_below marks i c = omega (arith, asked_few (take i marks), length-take i marks)

-- the first of the answers left
pub first_left : (given : List ℕ) (j : ℕ) {old new : List ℕ} (over : Type 0) {next : Option (Bor ℕ)} {b : Bor ℕ} (none : Bor ℕ) (r : Option (Bor ℕ)) → next ≡ r → b ≡ unwrap_or next none
    → old ≡ drop j given → j < length given → MatchOption r ((length old ≡ 0) × over) (λ x. old ≡ x.now ∷ new)
    → (b.now ≡ get_or given j 0) × (new ≡ drop (j + 1) given)
first_left given j over none None e q o low m = let l = length-drop j given in absurd (no_less (rw o at m.0) l low)
  where
    no_less : {a b c : ℕ} → a ≡ 0 → a ≡ b - c → c < b → ⊥
    no_less e f h = omega arith
first_left given j {new = new} over none (Some x) e q o low m =
    let all : x.now ∷ new ≡ get_or given j 0 ∷ drop (j + 1) given = sym m ∙ o ∙ drop_more given j 0 low in
    (ap (λ (b : Bor ℕ). b.now) (q ∙ ap (λ (n : Option (Bor ℕ)). unwrap_or n none) e) ∙ ap (λ (l : List ℕ). get_or l 0 0) all, ap (λ (l : List ℕ). drop 1 l) all)

-- the answer to a line, and the answers left behind it
module _ (marks : List Bool) (given : List ℕ) (i lines : ℕ) (low : i < lines) (free : lines ≤ length marks) where
  one_more : take (i + 1) marks ≡ take i marks ++ (get_or marks i false ∷ [])
  one_more = rw add-one (take-suc marks i false (omega arith))

  asked_more : asked (take (i + 1) marks) ≡ asked (take i marks) + one (get_or marks i false)
  asked_more = rw one_more (asked_snoc (take i marks) (get_or marks i false))

  abbrev pub Answered : ℕ → List ℕ → Type 0
  Answered a left = (a ≡ said (get_or marks i false) (get_or given (asked (take i marks)) 0)) × (left ≡ drop (asked (take (i + 1) marks)) given)

  pub asks_one : {a : ℕ} {left : List ℕ} → get_or marks i false ≡ true → (a ≡ get_or given (asked (take i marks)) 0) × (left ≡ drop (asked (take i marks) + 1) given) → Answered a left
  unfolding said
  asks_one m e = (rw m e.0, rw (asked_more, m) e.1)

  pub asks_none : {a : ℕ} {left : List ℕ} → get_or marks i false ≡ false → a ≡ 17 → left ≡ drop (asked (take i marks)) given → Answered a left
  unfolding said
  asks_none m e l = (rw m e, rw (asked_more, m, add-zero) l)

  pub texts_more : {old out ys : List ℕ} {w more : ℕ} (n k a : ℕ) → Put old 0 (texts n (take i marks) given) out w
      → a ≡ said (get_or marks i false) (get_or given (asked (take i marks)) 0) → k ≡ n + i → w ≤ length out → 12 ≤ length out - w
      → Put (take (length out - w) (drop w out)) 0 (line_text k a) ys more
      → Put old 0 (texts n (take (i + 1) marks) given) (put_mid w (length out - w) out ys) (w + more)
  texts_more {w = w} n k a p e z h room q =
      let t : length (take i marks) ≡ i = length-take-le i marks (omega arith) in
      let s : texts n (take (i + 1) marks) given ≡ texts n (take i marks) given ++ line_text k a
      = rw (one_more, e, z) (rw t at (texts_snoc n (take i marks) (get_or marks i false) given)) in
      rw s (put_then p (put_end h (omega (arith, line_length k a)) q))

-- ---- what the guard hands back
all_fit : (n answers roles : ℕ) → n ≤ answers → n ≤ roles → batch_length (row_length * n) answers roles ≡ n
unfolding batch_length shorter
all_fit n answers roles h k = let e : (row_length * n) / row_length ≡ n = omega arith in rw e (go (leb roles answers))
  where
    go : (b : Bool) → cond (leb n (cond b roles answers)) n (cond b roles answers) ≡ n
    go true = rw (le-leb n roles k)
    go false = rw (le-leb n answers h)

module _ {t u : Tables} (rows : List ℕ) {old new old_roles new_roles : List ℕ} (n : ℕ) (did : RunsBatch t (take (row_length * n) rows) old new old_roles new_roles u)
    (within : row_length * n ≤ length rows) (room : n ≤ length old) (space : n ≤ length old_roles) where
  so_many : batch_count (take (row_length * n) rows) old old_roles ≡ n
  so_many =
      ap (λ (k : ℕ). batch_length k (length old) (length old_roles)) (length-take-le (row_length * n) rows within) ∙ all_fit n (length old) (length old_roles) room space

  the_log : batch (take (row_length * n) rows) old old_roles ≡ requests n rows
  the_log = ap (λ (k : ℕ). requests k (take (row_length * n) rows)) so_many ∙ requests_take n rows

  pub ran_tables : u ≡ run t (requests n rows)
  ran_tables = did.tables ∙ ap (run t) the_log

  pub ran_answers : new ≡ answers t (requests n rows) ++ drop n old
  ran_answers = did.answered ∙ ap₂ (λ (l : List Request) (k : ℕ). answers t l ++ drop k old) the_log so_many

-- ---- the step over a batch
pub fits_in : {at s rows : List ℕ} {shut : Bool} {marks : List Bool} {g : Gathered} {done room m : ℕ} → Most done room m → Batched at shut s m rows marks g → g.count ≤ batch_lines
fits_in {marks = marks} {g = g} most took = omega (arith, took.count, took.few, most.fits, asked_few (take g.lines marks), length-take g.lines marks)

abbrev pub on_by : Runner → Tables → Bool → ℕ → Runner
on_by r t shut n = record { bench = bench t shut; at = r.at; phase = r.phase; done = r.done + n; skip = r.skip }

module _ (r : Runner) (piece old new : List ℕ) (end : Bool) (g : Gathered) (u : Tables) (rows : List ℕ) (marks : List Bool) (given told old_roles roles : List ℕ) (m n : ℕ)
    (p : r.phase ≡ Lines) (k : r.skip ≡ false) (most : Most r.done (length old) m) (took : Batched r.at r.bench.shut piece m rows marks g)
    (some : g.lines ≡ 0 → ⊥) (deep : length given ≡ batch_lines) (wide : length old_roles ≡ batch_lines)
    (did : RunsBatch r.bench.tables (take (row_length * g.count) rows) given told old_roles roles u)
    (puts : Put old 0 (texts (r.done + 1) (take g.lines marks) told) new n) where
  abbrev asks : List Bool
  asks = take g.lines marks

  abbrev log : List Request
  log = requests g.count rows

  abbrev then : Runner
  then = on_by r u g.shut g.lines

  few : g.count ≤ batch_lines
  few = fits_in most took

  last : r.done + g.lines ≤ last_line
  last = omega (arith, took.few, most.last)

  there : bench_of then ≡ bench (run r.bench.tables log) g.shut
  there = rw (ran_tables rows g.count did took.stored (omega (arith, few)) (omega (arith, few)))

  enough : asked asks ≤ length (answers r.bench.tables log)
  enough = omega (arith, took.count, length_each answer r.bench.tables log, length_tabulate (request_at rows) g.count)

  words : texts (r.done + 1) asks told ≡ texts (r.done + 1) asks (answers r.bench.tables log)
  words =
      rw (ran_answers rows g.count did took.stored (omega (arith, few)) (omega (arith, few)))
      (texts_given (r.done + 1) asks (answers r.bench.tables log) (drop g.count given) enough)

  later : (header : List (List ℕ)) (more : List ℕ) → rest header then (drop g.used piece ++ more)
      ≡ from_line header (bench_of then) (r.done + g.lines) (drop g.used piece ++ more)
  later header more = rest_lines header then (drop g.used piece ++ more) p ∙ (rw k)

  goes : Goes end r piece (texts (r.done + 1) asks told) then (drop g.used piece)
  goes header f =
      record {
        known = header;
        fits = record { opens = λ h. absurd (begun p h); knows = λ h. f.knows p };
        same = λ more e.
            rest_lines header r (piece ++ more) p ∙ (rw k) ∙ took.goes header (f.knows p) r.bench.tables r.done last more ∙ (rw (← words, ← there))
            ∙ ap (told_first (texts (r.done + 1) asks told)) (sym (later header more));
      }

  fit : length (texts (r.done + 1) asks told) ≤ length old
  fit = omega (arith, texts_length (r.done + 1) asks told, length-take g.lines marks, took.few, most.space)

  pub batch_done : Stepped r piece end old new (ran then g.used n)
  batch_done =
      stepped (worked r then piece end old new (texts (r.done + 1) asks told) g.used n puts fit took.within goes)
      (λ h. lines_later p h) (took.moves (omega (arith, some)))
