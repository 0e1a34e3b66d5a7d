-- Logs, request by request, as a run over rows goes.
--     each                              what each request of a log gets: the answers, or the roles told
--     run_append, each_append           one log after the other
--     run_snoc, each_snoc, length_each  one request more at the end of a log
--     store_more                        the next byte, stored in its place
--     batch_room, batch_space, batch_rows      a batch has room for its answers and its roles, and each of its rows is whole
--     all_refused                       on unsound tables every answer is 1, no role is told, and the tables stay
-- Assumes nothing.
use Prim.Native.Nat.{ℕ, suc, ◌+◌, ◌*◌, ◌/◌, ◌≤◌, ◌<◌}
use mathlib.Core.Path.{◌≡◌, refl, sym, ap, ◌∙◌}
use mathlib.Core.Bool.{Bool, true, false, cond}
use mathlib.Core.List.{List, [], ◌∷◌, ◌++◌, map}
use native.Mathlib.Numerals.{add-one}
use native.Mathlib.Omega.{arith}
use lib.Dec.{leb}
use lib.ListN.{length, get_or, set, drop, replicate}
use lib.Seq.{drop-cons, set_at, append_snoc}
use borrow.Author.Tests.{leb-true, leb-false}
use Rattle.guard.specs.Sound.{sound}
use Rattle.guard.specs.Label.{all_categories}
use Rattle.guard.specs.Told.{role_byte}
use Rattle.guard.specs.Step.{next, next_in, run, run_in, role_told_in, each_in, answers, roles_told}
use Rattle.guard.specs.Batch.{row_length, shorter, batch_length}
use Rattle.guard.specs.declared.Tables.{Tables}
use Rattle.guard.specs.declared.Request.{Request}
use Rattle.guard.proofs.Laws.Requests.{unsound_answer}

abbrev pub each : {A : Type 0} → (Tables → Request → A) → Tables → List Request → List A
each = each_in all_categories

pub run_append : (t : Tables) (a b : List Request) → run t (a ++ b) ≡ run (run t a) b
unfolding run_in
run_append t [] b = refl
run_append t (p ∷ a) b = run_append (next t p) a b

pub each_append : {A : Type 0} (f : Tables → Request → A) (t : Tables) (a b : List Request) → each f t (a ++ b) ≡ each f t a ++ each f (run t a) b
unfolding run_in each_in
each_append f t [] b = refl
each_append {A = A} f t (p ∷ a) b = ap (λ (l : List A). f t p ∷ l) (each_append f (next t p) a b)

pub run_snoc : (t : Tables) (log : List Request) (q : Request) → run t (log ++ (q ∷ [])) ≡ next (run t log) q
unfolding run_in
run_snoc t log q = run_append t log (q ∷ [])

pub each_snoc : {A : Type 0} (f : Tables → Request → A) (t : Tables) (log : List Request) (q : Request)
    → each f t (log ++ (q ∷ [])) ≡ each f t log ++ (f (run t log) q ∷ [])
unfolding each_in
each_snoc f t log q = each_append f t log (q ∷ [])

pub length_each : {A : Type 0} (f : Tables → Request → A) (t : Tables) (log : List Request) → length (each f t log) ≡ length log
unfolding each_in
length_each f t [] = refl
length_each f t (q ∷ log) = ap suc (length_each f (next t q) log)

-- the next answer, stored behind those that are there
pub store_more : (l old : List ℕ) (i v : ℕ) → length l ≡ i → i < length old → set (l ++ drop i old) i v ≡ (l ++ (v ∷ [])) ++ drop (i + 1) old
store_more l old i v long low =
    rw (add-one, drop-cons old i 0) (set_at l (get_or old i 0) (drop (suc i) old) v i long ∙ sym (append_snoc l v (drop (suc i) old)))

-- ---- how many requests a batch has
shorter_l : (a b : ℕ) → shorter a b ≤ a
unfolding shorter
shorter_l a b = go (leb a b) refl
  where
    go : (c : Bool) → leb a b ≡ c → cond c a b ≤ a
    go true h = omega arith
    go false h = let k = leb-false a b h in omega arith

shorter_r : (a b : ℕ) → shorter a b ≤ b
unfolding shorter
shorter_r a b = go (leb a b) refl
  where
    go : (c : Bool) → leb a b ≡ c → cond c a b ≤ b
    go true h = leb-true a b h
    go false h = omega arith

module _ (numbers answers roles : ℕ) where
  pub batch_room : batch_length numbers answers roles ≤ answers
  unfolding batch_length
  batch_room = omega (arith, shorter_r (numbers / row_length) (shorter roles answers), shorter_r roles answers)

  pub batch_space : batch_length numbers answers roles ≤ roles
  unfolding batch_length
  batch_space = omega (arith, shorter_r (numbers / row_length) (shorter roles answers), shorter_l roles answers)

  pub batch_rows : (i : ℕ) → i < batch_length numbers answers roles → row_length * i + row_length ≤ numbers
  unfolding batch_length
  batch_rows i l = let k = shorter_l (numbers / row_length) (shorter roles answers) in omega arith

-- ---- on unsound tables
pub all_refused : (t : Tables) (log : List Request) → sound t ≡ false
    → (run t log ≡ t) × (answers t log ≡ replicate (length log) 1) × (map role_byte (roles_told t log) ≡ replicate (length log) 255)
unfolding run_in each_in next_in role_told_in role_byte
all_refused t [] h = (refl, refl, refl)
all_refused t (q ∷ log) h =
    let (r, a, m) = all_refused t log h in (
      rw (unsound_answer t q h) r,
      rw (unsound_answer t q h) (ap (λ (l : List ℕ). 1 ∷ l) a),
      rw (unsound_answer t q h) (ap (λ (l : List ℕ). 255 ∷ l) m),
    )
