-- Laws by which the functions of src/text and src/print meet their contracts: where a byte stands, digits, stores one behind
-- the other, and decimal numbers.
-- first_place, before_place: the place of the first byte that passes a test, and of a delimiter.
-- none_other, long_other, one_dash, dash_other: the forms of a value. Read: the loop over its digits, with read_low, read_high,
-- read_more, read_end.
-- put_part, put_nil, put_cons, put_then: stores. place_hit, place_miss: one digit. line_of: a number with its digits.
-- line_length, heading_length: how long what is printed is at most.
-- Assumes nothing.
use Prim.Native.Nat.{ℕ, suc, ◌+◌, ◌-◌, ◌*◌, ◌/◌, ◌%◌, ◌^◌, ◌≤◌, ◌<◌}
use mathlib.Core.Path.{◌≡◌, refl, ap, sym, ◌∙◌}
use mathlib.Core.Bool.{Bool, true, false, not, cond, ◌&&◌}
use Rattle.std.specs.Prelude.{Option, Some, None, ltb}
use Rattle.std.specs.Option.{unwrap_or}
use Rattle.std.specs.List.{position_or_len}
use Rattle.std.proofs.lemmas.List.Sums.{prefix_len-le-length}
use Rattle.std.proofs.lemmas.List.Recursion.{is_position_or_len}
use mathlib.Core.List.{List, [], ◌∷◌, ◌++◌, append_assoc}
use native.Mathlib.Numerals.{add-one}
use native.Mathlib.Nat.{add-zero, add-suc, suc-add, pow-suc}
use native.Mathlib.Omega.{arith}
use lib.Dec.{leb, eqb}
use lib.ListN.{length, get_or, set, take, drop, length-append, drop_of_length-le}
use lib.Seq.{sets, sets-eq, drop-cons, drop-drop}
use borrow.Rule.Slice.PartMut.{put_mid}
use borrow.Author.Tests.{le-leb, lt-leb, ne_eqb, ltb-false}
use Rattle.bitset.specs.Tests.{every}
use Rattle.script.specs.declared.line.Value.TheVariants.{Digits, Dash, Other}
use Rattle.script.specs.Text.{bytes, same, all_digits, number, place, decimal}
use Rattle.script.specs.Line.{value_of}
use Rattle.script.specs.Report.{heading, line_text}
use Rattle.script.specs.Private.Slices.{before, written, Put}

-- ---- where a byte stands
-- the place of the first that passes a test, or the length: what stands before it
pub first_place : (F : List ℕ → ℕ) (p : ℕ → Bool) → F [] ≡ 0 → ((x : ℕ) (xs : List ℕ) → F (x ∷ xs) ≡ cond (p x) 0 (1 + F xs)) → (xs : List ℕ) {r : Option ℕ} {n : ℕ}
    → r ≡ cond (ltb (position_or_len p xs) (length xs)) (Some (position_or_len p xs)) None → n ≡ unwrap_or r (length xs) → n ≡ F xs
first_place F p a b xs {r} {n} e f = f ∙ (rw e (go (ltb (position_or_len p xs) (length xs)) refl)) ∙ sym (is_position_or_len F p a b xs)
  where
    go : (t : Bool) → ltb (position_or_len p xs) (length xs) ≡ t → unwrap_or (cond t (Some (position_or_len p xs)) None) (length xs) ≡ position_or_len p xs
    go true t = refl
    go false t = omega (arith, ltb-false _ _ t, prefix_len-le-length (λ x. not (p x)) xs)

pub before_place : (d : ℕ) (x : ℕ) (xs : List ℕ) → length (before d (x ∷ xs)) ≡ cond (eqb x d) 0 (1 + length (before d xs))
unfolding before
before_place d x xs = go (eqb x d)
  where
    go : (t : Bool) → length (cond t [] (x ∷ before d xs)) ≡ cond t 0 (1 + length (before d xs))
    go true = refl
    go false = omega arith

-- ---- values
pub not_dash : (s : List ℕ) → (get_or s 0 0 ≡ 45 → ⊥) → same s (bytes "-") ≡ false
unfolding same bytes
not_dash [] h = refl
not_dash (b ∷ s) h = rw (ne_eqb b 45 h)

pub no_dash : (s : List ℕ) → 1 < length s → same s (bytes "-") ≡ false
unfolding same bytes
no_dash [] h = absurd (omega arith)
no_dash (a ∷ []) h = absurd (omega arith)
no_dash (a ∷ b ∷ s) h = go (eqb a 45)
  where
    go : (t : Bool) → (t && false) ≡ false
    go true = refl
    go false = refl

pub none_other : (s : List ℕ) → length s ≡ 0 → Other ≡ value_of s
unfolding value_of same bytes every
none_other [] h = refl
none_other (b ∷ s) h = absurd (omega arith)

pub long_other : (s : List ℕ) → 5 < length s → Other ≡ value_of s
unfolding value_of every
long_other s h = rw (no_dash s (omega arith), lt-leb (length s) 5 h, le-leb 1 (length s) (omega arith))

pub one_dash : (s : List ℕ) → length s ≡ 1 → get_or s 0 0 ≡ 45 → Dash ≡ value_of s
unfolding value_of same bytes
one_dash [] h e = absurd (omega arith)
one_dash (a ∷ []) h e = rw e
one_dash (a ∷ b ∷ s) h e = absurd (omega arith)

module _ (s : List ℕ) (many : 0 < length s) (few : length s ≤ 5) (first : get_or s 0 0 ≡ 45 → ⊥) where
  bad_other : all_digits s ≡ false → Other ≡ value_of s
  unfolding value_of every
  bad_other h = rw (not_dash s first, le-leb 1 (length s) many, le-leb (length s) 5 few, h)

  pub good_digits : all_digits s ≡ true → Digits (number 0 s) ≡ value_of s
  unfolding value_of every
  good_digits h = rw (not_dash s first, le-leb 1 (length s) many, le-leb (length s) 5 few, h)

pub dash_other : (s : List ℕ) → 0 < length s → (length s ≡ 1 → ⊥) → length s ≤ 5 → get_or s 0 0 ≡ 45 → Other ≡ value_of s
unfolding value_of every all_digits
dash_other [] l h f e = absurd (omega arith)
dash_other (a ∷ s) l h f e = rw (no_dash (a ∷ s) (omega arith), le-leb (length (a ∷ s)) 5 f, le-leb 1 (length (a ∷ s)) l, e)

-- ---- the loop over the digits of a value: n is the number of the first i
pub record Read (s : List ℕ) (n i : ℕ) : Type 0 where
  pub within : i ≤ length s
  pub good : all_digits s ≡ all_digits (drop i s)
  pub value : number 0 s ≡ number n (drop i s)
  pub small : n < 10 ^ i

module _ {s : List ℕ} {n i : ℕ} (r : Read s n i) where
  pub read_more : i < length s → 48 ≤ get_or s i 0 → get_or s i 0 ≤ 57 → Read s (10 * n + (get_or s i 0 - 48)) (i + 1)
  unfolding all_digits number every
  read_more l lo hi =
      record {
        within = omega arith;
        good = r.good ∙ (rw (drop-cons s i 0 l, le-leb 48 (get_or s i 0) lo, le-leb (get_or s i 0) 57 hi, add-one));
        value = r.value ∙ (rw (drop-cons s i 0 l, add-one));
        small = rw (add-one, pow-suc) (omega (arith, r.small));
      }

  module _ (many : 0 < length s) (few : length s ≤ 5) (first : get_or s 0 0 ≡ 45 → ⊥) where
    pub read_low : i < length s → get_or s i 0 < 48 → Other ≡ value_of s
    unfolding all_digits every
    read_low l lo = bad_other s many few first (r.good ∙ (rw (drop-cons s i 0 l, lt-leb 48 (get_or s i 0) lo)))

    pub read_high : i < length s → 57 < get_or s i 0 → Other ≡ value_of s
    unfolding all_digits every
    read_high l hi =
        bad_other s many few first (r.good ∙ (rw (drop-cons s i 0 l, lt-leb (get_or s i 0) 57 hi, le-leb 48 (get_or s i 0) (omega arith))))

    pub read_end : length s ≤ i → Digits n ≡ value_of s
    unfolding all_digits number
    read_end l =
        ap Digits (sym (r.value ∙ (rw (drop_of_length-le s l))))
        ∙ good_digits s many few first (r.good ∙ (rw (drop_of_length-le s l)))

-- ---- stores
-- into the part of a slice that is as long as what is stored
pub put_part : (l vs : List ℕ) (i k : ℕ) → k ≡ length vs → i + length vs ≤ length l → {n : ℕ} → n ≡ i + k → Put l i vs (put_mid i k l vs) n
unfolding written
put_part l vs i k e h f =
    record {
      holds = ap (λ (v : List ℕ). take i l ++ (vs ++ v)) (drop-drop k i l ∙ ap (λ (n : ℕ). drop (i + n) l) e)
          ∙ sym (sets-eq vs l i h ∙ append_assoc (take i l) vs (drop (i + length vs) l));
      next = f ∙ ap (λ (n : ℕ). i + n) e;
    }

sets_then : (l : List ℕ) (i : ℕ) (vs ws : List ℕ) → sets (sets l i vs) (i + length vs) ws ≡ sets l i (vs ++ ws)
sets_then l i [] ws = rw add-zero
sets_then l i (v ∷ vs) ws = rw (add-suc, ← suc-add) (sets_then (set l i v) (suc i) vs ws)

pub put_nil : {l : List ℕ} {i : ℕ} → Put l i [] l i
unfolding written
put_nil {l} {i} = record { holds = refl; next = sym (add-zero i) }

pub put_cons : {l vs new : List ℕ} {i j b k : ℕ} → j ≡ i + 1 → Put (set l i b) j vs new k → Put l i (b ∷ vs) new k
unfolding written
put_cons {l} {vs} {new} {i} {j} {b} {k} h p =
    record {
      holds = p.holds ∙ ap (λ (n : ℕ). sets (set l i b) n vs) (h ∙ add-one i);
      next = omega (arith, p.next, add-suc i (length vs));
    }

pub put_then : {l vs mid ws new : List ℕ} {i j k : ℕ} → Put l i vs mid j → Put mid j ws new k → Put l i (vs ++ ws) new k
unfolding written
put_then {l} {vs} {mid} {ws} {new} {i} {j} {k} p q =
    record {
      holds = q.holds ∙ (rw (p.next, p.holds) (sets_then l i vs ws));
      next = omega (arith, p.next, q.next, length-append vs ws);
    }

-- ---- one digit
pub place_hit : {l new : List ℕ} {i k p n : ℕ} → p ≤ n → Put l i ((48 + n / p % 10) ∷ []) new k → Put l i (place p n) new k
unfolding place
place_hit {l} {new} {i} {k} {p} {n} h q = rw (le-leb p n h) q

pub place_miss : {l : List ℕ} {i p n : ℕ} → n < p → Put l i (place p n) l i
unfolding place
place_miss {l} {i} {p} {n} h = rw (lt-leb p n h) put_nil

-- ---- numbers one after the other
pub line_of : {n k : ℕ} (a : ℕ) {r : ℕ} {l new : List ℕ} → k ≡ n → Put l 0 (line_text k a) new r → Put l 0 (line_text n a) new r
line_of a e p = rw e at p

-- ---- how long a line is
place_length : (p n : ℕ) → length (place p n) ≤ 1
unfolding place
place_length p n = go (leb p n)
  where
    go : (b : Bool) → length (cond b ((48 + n / p % 10) ∷ []) []) ≤ 1
    go true = omega arith
    go false = omega arith

decimal_length : (n : ℕ) → length (decimal n) ≤ 5
unfolding decimal
decimal_length n =
    simp length-append
    (omega (arith, place_length 10000 n, place_length 1000 n, place_length 100 n, place_length 10 n))

pub line_length : (n a : ℕ) → length (line_text n a) ≤ 12
unfolding line_text
line_length n a = simp length-append (omega (arith, decimal_length n, decimal_length a))

pub heading_length : length heading ≡ 12
unfolding heading bytes
heading_length = refl
