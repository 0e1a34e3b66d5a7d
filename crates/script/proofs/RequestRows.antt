-- Requests as rows of numbers.
--     requests_take        the first rows by themselves
--     requests_on          what a line adds, stored behind the rows before it
-- Assumes nothing.
use Rattle.std.specs.Prelude.{Option, Some, None}
use Prim.Native.Nat.{ℕ, zero, suc, ◌+◌, ◌*◌, ◌≤◌, ◌<◌}
use mathlib.Core.Path.{◌≡◌, refl, ap, ap₂, sym, ◌∙◌}
use mathlib.Core.List.{List, [], ◌∷◌, ◌++◌, append-nil, append_assoc}
use lib.ListN.{length, take, drop, get_or, get_or-append}
use lib.Seq.{sets-eq, length-take-le, get_or-take, get_or-append-add}
use native.Mathlib.Nat.{add-zero}
use native.Mathlib.Numerals.{add-one}
use native.Mathlib.Omega.{arith}
use Rattle.guard.specs.Fresh.{tabulate}
use Rattle.guard.specs.Batch.{row_length, request_at, requests}
use Rattle.guard.specs.Batch.{row_of}
use Rattle.guard.specs.declared.Request.{Request}
use Rattle.script.specs.Private.Slices.{written}
use Rattle.script.specs.Private.LineBatch.{is_request, numbers_of, one}
use Rattle.script.specs.declared.line.Line.{Line}
use Rattle.script.specs.declared.line.Line.TheVariants.{Ask, SetUser}

-- the requests that a line asks
abbrev pub requests_of : Option Line → List Request
requests_of (Some (Ask q)) = q ∷ []
requests_of (Some (SetUser u)) = []
requests_of None = []

-- ---- rows that are the same numbers
request_same : (a b : List ℕ) (n : ℕ) → ((j : ℕ) → j < row_length → get_or a (row_length * n + j) 0 ≡ get_or b (row_length * n + j) 0) → request_at a n ≡ request_at b n
unfolding request_at
request_same a b n h =
    rw (h 0 (omega arith), h 1 (omega arith), h 2 (omega arith), h 3 (omega arith), h 4 (omega arith), h 5 (omega arith), h 6 (omega arith), h 7 (omega arith), h 8 (omega arith), h 9 (omega arith), h 10 (omega arith), h 11 (omega arith), h 12 (omega arith))

requests_same : (n : ℕ) (a b : List ℕ) → ((k : ℕ) → k < row_length * n → get_or a k 0 ≡ get_or b k 0) → requests n a ≡ requests n b
unfolding tabulate
requests_same zero a b h = refl
requests_same (suc n) a b h =
    ap₂ (λ (l : List Request) (q : Request). l ++ (q ∷ [])) (requests_same n a b (λ k l. h k (omega arith))) (request_same a b n (λ j l. h (row_length * n + j) (omega arith)))

pub requests_take : (n : ℕ) (rows : List ℕ) → requests n (take (row_length * n) rows) ≡ requests n rows
requests_take n rows = requests_same n (take (row_length * n) rows) rows (λ k l. get_or-take (row_length * n) rows k 0 l)

-- ---- one line more
module _ (rows vs : List ℕ) (i : ℕ) (h : i + length vs ≤ length rows) where
  abbrev rest : List ℕ
  rest = vs ++ drop (i + length vs) rows

  long : length (take i rows) ≡ i
  long = length-take-le i rows (omega arith)

  written_eq : written rows i vs ≡ take i rows ++ rest
  unfolding written
  written_eq = sets-eq vs rows i h ∙ append_assoc (take i rows) vs (drop (i + length vs) rows)

  written_before : (k : ℕ) → k < i → get_or (written rows i vs) k 0 ≡ get_or rows k 0
  written_before k l =
      ap (λ (v : List ℕ). get_or v k 0) written_eq ∙ get_or-append (take i rows) rest 0 k (omega (arith, long)) ∙ get_or-take i rows k 0 l

  written_at : (j : ℕ) → j < length vs → get_or (written rows i vs) (i + j) 0 ≡ get_or vs j 0
  written_at j l =
      ap (λ (v : List ℕ). get_or v (i + j) 0) written_eq
      ∙ ap (λ (k : ℕ). get_or (take i rows ++ rest) (k + j) 0) (sym long)
      ∙ get_or-append-add (take i rows) rest j 0
      ∙ get_or-append vs (drop (i + length vs) rows) 0 j l

module _ (rows : List ℕ) (n : ℕ) (q : Request) (h : row_length * n + row_length ≤ length rows) where
  abbrev after_it : List ℕ
  after_it = written rows (row_length * n) (row_of q)

  here : (j : ℕ) → j < row_length → get_or after_it (row_length * n + j) 0 ≡ get_or (row_of q) j 0
  here j l = written_at rows (row_of q) (row_length * n) (omega arith) j l

  stored : request_at after_it n ≡ q
  unfolding request_at
  stored =
      rw (here 0 (omega arith), here 1 (omega arith), here 2 (omega arith), here 3 (omega arith), here 4 (omega arith), here 5 (omega arith), here 6 (omega arith), here 7 (omega arith), here 8 (omega arith), here 9 (omega arith), here 10 (omega arith), here 11 (omega arith), here 12 (omega arith))

  requests_more : requests (n + 1) after_it ≡ requests n rows ++ (q ∷ [])
  unfolding tabulate
  requests_more =
      rw add-one
      (ap₂ (λ (l : List Request) (p : Request). l ++ (p ∷ [])) (requests_same n after_it rows (written_before rows (row_of q) (row_length * n) (omega arith))) stored)

pub requests_on : (rows : List ℕ) (n : ℕ) (l : Option Line) → row_length * n + row_length ≤ length rows
    → requests (n + one (is_request l)) (written rows (row_length * n) (numbers_of l)) ≡ requests n rows ++ requests_of l
unfolding is_request numbers_of written
requests_on rows n (Some (Ask q)) h = requests_more rows n q h
requests_on rows n (Some (SetUser u)) h = rw (add-zero n, append-nil)
requests_on rows n None h = rw (add-zero n, append-nil)
