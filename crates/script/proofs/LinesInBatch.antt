-- A batch of lines.
--     line_in                a line's answer in a batch is the guard's answer to its request, or 17
--     asked_snoc, texts_snoc one line more at the end
--     one_few, one_least, asked_few     at most as many requests as lines
--     texts_given            answers behind those that are asked for change nothing
--     texts_length           each line has at most twelve bytes
-- Assumes nothing.
use Rattle.std.specs.Prelude.{Option, Some, None}
use Prim.Native.Nat.{ℕ, suc, ◌+◌, ◌*◌, ◌≤◌}
use mathlib.Core.Path.{◌≡◌, refl, ap, sym, ◌∙◌}
use mathlib.Core.Bool.{Bool, true, false, ◌||◌, true≢false}
use mathlib.Core.List.{List, [], ◌∷◌, ◌++◌, append-nil, append_assoc}
use lib.ListN.{length, drop, get_or, length-append}
use lib.Seq.{get_or-drop}
use native.Mathlib.Nat.{add-zero}
use native.Mathlib.Omega.{arith}
use Rattle.bitset.specs.Tests.Laws.{or-true, or-false}
use Rattle.guard.specs.Step.{answer, next, run, run_in, answers, each_in}
use Rattle.guard.specs.declared.Tables.{Tables}
use Rattle.script.specs.Report.{answer_line, line_text}
use Rattle.script.specs.Run.{bench}
use Rattle.script.specs.Private.LineBatch.{is_request, is_allowed, one, asked, said, texts}
use Rattle.script.specs.declared.line.Line.{Line}
use Rattle.script.specs.declared.line.Line.TheVariants.{Ask, SetUser}
use Rattle.script.proofs.Texts.{line_length}
use Rattle.script.proofs.RequestRows.{requests_of}

-- ---- a line in a batch
pub line_in : (t : Tables) (shut : Bool) (l : Option Line) → is_allowed shut l ≡ false
    → answer_line (bench t shut) l
    ≡ record { bench = bench (run t (requests_of l)) (shut || is_request l); answer = said (is_request l) (get_or (answers t (requests_of l)) 0 0) }
unfolding answer_line is_request is_allowed run_in each_in said
line_in t shut (Some (Ask q)) h = ap (λ (b : Bool). record { bench = bench (next t q) b; answer = answer t q }) (sym (or-true shut))
line_in t true (Some (SetUser u)) h = refl
line_in t false (Some (SetUser u)) h = absurd (true≢false h)
line_in t shut None h = rw (or-false shut)

-- ---- the output of lines
pub one_few : (m : Bool) → one m ≤ 1
one_few true = omega arith
one_few false = omega arith

pub one_least : {c : ℕ} (m : Bool) → c ≡ one m → c ≤ 1
one_least m e = omega (arith, one_few m)

pub asked_snoc : (ms : List Bool) (m : Bool) → asked (ms ++ (m ∷ [])) ≡ asked ms + one m
unfolding asked
asked_snoc [] m = omega arith
asked_snoc (p ∷ ms) m = omega (arith, asked_snoc ms m)

pub asked_few : (ms : List Bool) → asked ms ≤ length ms
unfolding asked
asked_few [] = omega arith
asked_few (m ∷ ms) = omega (arith, one_few m, asked_few ms)

pub texts_snoc : (n : ℕ) (ms : List Bool) (m : Bool) (given : List ℕ)
    → texts n (ms ++ (m ∷ [])) given ≡ texts n ms given ++ line_text (n + length ms) (said m (get_or given (asked ms) 0))
unfolding texts asked
texts_snoc n [] m given = append-nil _ ∙ ap (λ (k : ℕ). line_text k (said m (get_or given 0 0))) (sym (add-zero n))
texts_snoc n (p ∷ ms) m given =
    ap (λ (w : List ℕ). line_text n (said p (get_or given 0 0)) ++ w) (texts_snoc (n + 1) ms m (drop (one p) given))
    ∙ sym (append_assoc (line_text n (said p (get_or given 0 0))) (texts (n + 1) ms (drop (one p) given)) _)
    ∙ (rw (moved (length ms), get_or-drop (one p) given (asked ms) 0))
  where
    moved : (k : ℕ) → (n + 1) + k ≡ n + suc k
    moved k = omega arith

pub texts_given : (n : ℕ) (ms : List Bool) (given zs : List ℕ) → asked ms ≤ length given → texts n ms (given ++ zs) ≡ texts n ms given
unfolding texts asked said
texts_given n [] given zs h = refl
texts_given n (false ∷ ms) given zs h = ap (λ (w : List ℕ). line_text n 17 ++ w) (texts_given (n + 1) ms given zs (omega arith))
texts_given n (true ∷ ms) [] zs h = absurd (none (asked ms) h)
  where
    none : (k : ℕ) → 1 + k ≤ 0 → ⊥
    none k h = omega arith
texts_given n (true ∷ ms) (g ∷ given) zs h = ap (λ (w : List ℕ). line_text n g ++ w) (texts_given (n + 1) ms given zs (omega arith))

pub texts_length : (n : ℕ) (ms : List Bool) (given : List ℕ) → length (texts n ms given) ≤ 12 * length ms
unfolding texts
texts_length n [] given = omega arith
texts_length n (m ∷ ms) given =
    omega (arith, length-append (line_text n (said m (get_or given 0 0))) (texts (n + 1) ms (drop (one m) given)), line_length n (said m (get_or given 0 0)), texts_length (n + 1) ms (drop (one m) given))
