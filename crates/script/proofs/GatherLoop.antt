-- The loop that loads lines into a batch.
--     Taken                  so far `used` bytes are taken
--     taken_none, goes_on, taken_next, taken_all     the loop's beginning, its test, one line more, and its end
--     count_few              at most as many requests as lines
-- Assumes nothing.
use Rattle.std.specs.Prelude.{Option, Some, None}
use Prim.Native.Nat.{ℕ, suc, ◌+◌, ◌-◌, ◌*◌, ◌≤◌, ◌<◌}
use mathlib.Core.Path.{◌≡◌, refl, ap, sym, ◌∙◌}
use mathlib.Core.Bool.{Bool, true, false, ◌||◌, true≢false}
use mathlib.Core.List.{List, [], ◌∷◌, ◌++◌, append-nil}
use lib.ListN.{length, take, drop, get_or, set, length-append, length-drop, length-take}
use lib.Seq.{take-suc-set, drop-drop, length-take-le, get_or_at}
use native.Mathlib.Numerals.{add-one}
use native.Mathlib.Nat.{add-zero}
use native.Mathlib.Omega.{arith}
use lib.Dec.{leb}
use borrow.Author.Tests.{leb-false}
use Rattle.guard.specs.Step.{answer, run, run_in, answers, each_in}
use Rattle.guard.specs.Fresh.{tabulate}
use Rattle.guard.specs.Batch.{row_length, request_at, requests}
use Rattle.guard.specs.declared.Tables.{Tables}
use Rattle.guard.specs.declared.Request.{Request}
use Rattle.guard.proofs.Filling.{length_tabulate}
use Rattle.guard.proofs.Logs.{run_snoc, each_snoc, length_each}
use Rattle.script.specs.Line.{read_line}
use Rattle.script.specs.Report.{line_text, last_line}
use Rattle.script.specs.Private.Slices.{before, written}
use Rattle.script.specs.Text.{after}
use Rattle.script.specs.Names.{Ordered}
use Rattle.script.specs.Run.{bench, told_first, from_line}
use Rattle.script.specs.Private.LineBatch.{is_request, is_allowed, numbers_of, one, asked, said, texts, Batched}
use Rattle.script.specs.declared.line.Line.{Line}
use Rattle.script.specs.declared.line.Line.TheVariants.{Ask, SetUser}
use Rattle.script.specs.declared.line.Front.{Front}
use Rattle.script.specs.Proof.Silent.{put_put}
use Rattle.script.proofs.ValuesInTurn.{after_drop, to_end}
use Rattle.script.proofs.Lines.{before_append, after_append}
use Rattle.script.proofs.LeftToTell.{line_on}
use Rattle.script.proofs.RequestRows.{requests_of, requests_on}
use Rattle.script.proofs.LinesInBatch.{line_in, asked_snoc, asked_few, texts_snoc, texts_given}

-- ---- one line on
abbrev pub answer_to : Tables → Option Line → ℕ
answer_to t l = said (is_request l) (get_or (answers t (requests_of l)) 0 0)

batch_on : (header : List (List ℕ)) (t : Tables) (shut : Bool) (n : ℕ) (s more : List ℕ) {l : Option Line} → l ≡ read_line header (before 10 s) → is_allowed shut l ≡ false
    → n < last_line → length (before 10 s) < length s
    → from_line header (bench t shut) n (s ++ more)
    ≡ told_first (line_text (n + 1) (answer_to t l)) (from_line header (bench (run t (requests_of l)) (shut || is_request l)) (n + 1) (after 10 s ++ more))
batch_on header t shut n s more e a d h =
    line_on header (bench t shut) n (s ++ more) d (omega (arith, length-append s more))
    ∙ (rw (before_append 10 more s h, after_append 10 more s h, ← e, line_in t shut _ a))

-- the loop goes on: the line of n bytes is whole, and not one to be answered by itself
pub goes_on : (s : List ℕ) (used n : ℕ) (b : Bool) → (leb (length (take (length s - used) (drop used s))) n || b) ≡ false
    → (n < length (take (length s - used) (drop used s))) × (used + n < length s) × (b ≡ false)
goes_on s used n b h = go (leb (length (take (length s - used) (drop used s))) n) refl b h
  where
    go : (c : Bool) → leb (length (take (length s - used) (drop used s))) n ≡ c → (b : Bool) → (c || b) ≡ false
        → (n < length (take (length s - used) (drop used s))) × (used + n < length s) × (b ≡ false)
    go false e false h = let l = leb-false _ n e in (l, omega (arith, l, ap length (to_end used s), length-drop used s), refl)
    go false e true h = absurd (true≢false h)
    go true e b h = absurd (true≢false h)

-- ---- what a line adds to a log
run_on : (t : Tables) (log : List Request) (l : Option Line) → run t (log ++ requests_of l) ≡ run (run t log) (requests_of l)
unfolding run_in
run_on t log (Some (Ask q)) = run_snoc t log q
run_on t log (Some (SetUser u)) = rw append-nil
run_on t log None = rw append-nil

texts_on : (t : Tables) (log : List Request) (l : Option Line) (n : ℕ) (ms : List Bool) → asked ms ≡ length log
    → texts n (ms ++ (is_request l ∷ [])) (answers t (log ++ requests_of l)) ≡ texts n ms (answers t log) ++ line_text (n + length ms) (answer_to (run t log) l)
unfolding is_request said each_in
texts_on t log (Some (Ask q)) n ms e =
    let given : List ℕ = answers t log in
    let a : ℕ = answer (run t log) q in
    let many : length given ≡ length log = length_each answer t log in
    ap (texts n (ms ++ (true ∷ []))) (each_snoc answer t log q)
    ∙ texts_snoc n ms true (given ++ (a ∷ []))
    ∙ (rw (texts_given n ms given (a ∷ []) (omega arith), get_or_at given a [] 0 (asked ms) (many ∙ sym e)))
texts_on t log (Some (SetUser u)) n ms e = rw append-nil (texts_snoc n ms false (answers t log))
texts_on t log None n ms e = rw append-nil (texts_snoc n ms false (answers t log))

-- ---- the loop over lines
pub record Taken (at s : List ℕ) (before : Bool) (rows : List ℕ) (marks : List Bool) (count lines used : ℕ) (shut : Bool) : Type 0 where
  pub within : used ≤ length s
  pub moves : lines ≤ used
  pub counted : count ≡ asked (take lines marks)
  pub goes : (header : List (List ℕ)) → Ordered header at → (t : Tables) (n : ℕ) → n + lines ≤ last_line → (more : List ℕ)
      → from_line header (bench t before) n (s ++ more)
      ≡ told_first (texts (n + 1) (take lines marks) (answers t (requests count rows)))
      (from_line header (bench (run t (requests count rows)) shut) (n + lines) (drop used s ++ more))

pub taken_none : (at s : List ℕ) (shut : Bool) (rows : List ℕ) (marks : List Bool) → Taken at s shut rows marks 0 0 0 shut
unfolding asked texts run_in tabulate
taken_none at s shut rows marks =
    record {
      within = omega arith;
      moves = omega arith;
      counted = refl;
      goes = λ header o t n h more. ap (λ (k : ℕ). from_line header (bench t shut) k (s ++ more)) (sym (add-zero n));
    }

module _ {at s part : List ℕ} {first shut : Bool} {rows : List ℕ} {marks : List Bool} {count lines used : ℕ} {x : Front}
    (h : Taken at s first rows marks count lines used shut) (p : part ≡ drop used s) (low : row_length * count + row_length ≤ length rows) (free : lines < length marks)
    (len : x.len ≡ length (before 10 part)) (is : (header : List (List ℕ)) → Ordered header at → x.asked ≡ read_line header (before 10 part))
    (l : x.len < length part) (a : is_allowed shut x.asked ≡ false) where
  abbrev m : Bool
  m = is_request x.asked

  abbrev new_rows : List ℕ
  new_rows = written rows (row_length * count) (numbers_of x.asked)

  rest_after : after 10 part ≡ drop (used + x.len + 1) s
  rest_after =
      sym (after_drop 10 part) ∙ (rw (p, drop-drop (suc (length (before 10 (drop used s)))) used s))
      ∙ ap (λ (k : ℕ). drop k s) (end_at x.len (length (before 10 (drop used s))) (len ∙ ap (λ (v : List ℕ). length (before 10 v)) p))
    where
      end_at : (a b : ℕ) → a ≡ b → used + suc b ≡ used + a + 1
      end_at a b e = omega arith

  more_marks : take (lines + 1) (set marks lines m) ≡ take lines marks ++ (m ∷ [])
  more_marks = rw add-one (take-suc-set marks lines m free)

  lines_taken : length (take lines marks) ≡ lines
  lines_taken = length-take-le lines marks (omega arith)

  more_requests : requests (count + one m) new_rows ≡ requests count rows ++ requests_of x.asked
  more_requests = requests_on rows count x.asked low

  taken_more : Taken at s first new_rows (set marks lines m) (count + one m) (lines + 1) (used + x.len + 1) (shut || m)
  taken_more =
      record {
        within = omega (arith, ap length p, length-drop used s, h.within);
        moves = omega (arith, h.moves);
        counted = rw more_marks (ap (λ (k : ℕ). k + one m) h.counted ∙ sym (asked_snoc (take lines marks) m));
        goes = λ header o t n k more.
            let log : List Request = requests count rows in
            let u : Tables = run t log in
            let so_far : List ℕ = texts (n + 1) (take lines marks) (answers t log) in
            let line : List ℕ = line_text (n + lines + 1) (answer_to u x.asked) in
            let e : asked (take lines marks) ≡ length log = sym h.counted ∙ sym (length_tabulate (request_at rows) count) in
            h.goes header o t n (omega (arith, k)) more
            ∙ ap (λ (v : List ℕ). told_first so_far (from_line header (bench u shut) (n + lines) (v ++ more))) (sym p)
            ∙ ap (told_first so_far) (batch_on header u shut (n + lines) part more (is header o) a (omega (arith, k)) (omega (arith, len, l)))
            ∙ put_put so_far line (from_line header (bench (run u (requests_of x.asked)) (shut || m)) (n + lines + 1) (after 10 part ++ more))
            ∙ (rw (more_marks, more_requests, texts_on t log x.asked (n + 1) (take lines marks) e, run_on t log x.asked, ← rest_after, lines_taken, along n lines, onward n lines));
      }
    where
      along : (n k : ℕ) → (n + 1) + k ≡ n + k + 1
      along n k = omega arith

      onward : (n k : ℕ) → n + (k + 1) ≡ n + k + 1
      onward n k = omega arith

pub count_few : {at s : List ℕ} {first shut : Bool} {rows : List ℕ} {marks : List Bool} {count lines used : ℕ} → Taken at s first rows marks count lines used shut → count ≤ lines
count_few {marks = marks} {lines = lines} h = omega (arith, h.counted, asked_few (take lines marks), length-take lines marks)

-- .. as the loop cuts off what is left of s
module _ {at s : List ℕ} {first shut : Bool} {rows new : List ℕ} {marks : List Bool} {count lines used : ℕ} {x : Front} {m : Bool} {c : ℕ}
    (h : Taken at s first rows marks count lines used shut) (low : row_length * count + row_length ≤ length rows) (free : lines < length marks)
    (len : x.len ≡ length (before 10 (take (length s - used) (drop used s))))
    (is : (header : List (List ℕ)) → Ordered header at → x.asked ≡ read_line header (before 10 (take (length s - used) (drop used s))))
    (l : x.len < length (take (length s - used) (drop used s))) (a : is_allowed shut x.asked ≡ false)
    (b : m ≡ is_request x.asked) (w : new ≡ written rows (row_length * count) (numbers_of x.asked)) (more : c ≡ one m) where
  pub taken_next : Taken at s first new (set marks lines m) (count + c) (lines + 1) (used + x.len + 1) (shut || m)
  taken_next = rw (more, w, b) (taken_more h (to_end used s) low free len is l a)

pub taken_all : {at s : List ℕ} {first shut : Bool} {rows : List ℕ} {marks : List Bool} {count lines used : ℕ} (most : ℕ)
    → Taken at s first rows marks count lines used shut → {n : ℕ} → n ≡ lines → lines ≤ most → most ≤ length marks → row_length * most ≤ length rows
    → Batched at first s most rows marks (record { count = count; lines = n; used = used; shut = shut })
taken_all most h e l m r =
    rw e
    (record {
      few = l;
      within = h.within;
      moves = λ z. omega (arith, h.moves);
      marked = omega arith;
      stored = omega (arith, count_few h);
      count = h.counted;
      goes = h.goes;
    })
