-- The value found at a byte of a line, under a name.
--     dash_equal                             a dash, by its length and its first byte
--     dash_under, value_later, value_call             a value under a name
--     word_dash, word_place, word_other               .. under `call`
--     found_any, found_one, found_two, found_last, found_dash, found_word      what is found, by the bytes there
-- Assumes nothing.
use lib.Pointwise.{pointwise}
use Prim.Native.Nat.{ℕ, ◌+◌, ◌-◌, ◌*◌, ◌≤◌, ◌<◌}
use mathlib.Core.Path.{◌≡◌, refl, ap, sym, ◌∙◌}
use mathlib.Core.Bool.{Bool, true, false, cond}
use mathlib.Core.List.{List, [], ◌∷◌}
use native.Mathlib.Omega.{arith}
use lib.Dec.{eqb, ltb}
use lib.ListN.{length, get_or, take, drop, length-drop}
use lib.Seq.{length-take-le, get_or-drop}
use borrow.Author.Tests.{le-leb, eq-eqb, ne_eqb}
use Rattle.std.specs.Prelude.{Some, None}
use Rattle.std.specs.Bool.{then_some}
use Rattle.bitset.specs.Tests.{every}
use Rattle.script.specs.Text.{bytes, same, all_digits, number}
use Rattle.script.specs.Names.{column}
use Rattle.script.specs.Line.{value_of, words}
use Rattle.script.specs.Private.Slices.{leading}
use Rattle.script.specs.Private.ShortTexts.{place_in, Begins}
use Rattle.script.specs.Private.Rows.{word_value, value_under, IsFound}
use Rattle.script.specs.declared.line.Value.{Value}
use Rattle.script.specs.declared.line.Value.TheVariants.{Digits, Dash, Other}
use Rattle.script.proofs.ByKey.{Bytes}
use Rattle.script.proofs.Texts.{good_digits}
use Rattle.script.proofs.ValuesInTurn.{to_end}
use Rattle.script.proofs.FirstValue.{lead_take, lead_one, lead_end, lead_two, drop_two, drop_three}
use Rattle.script.proofs.WordAtFront.{Word, word_known, bytes_drop}

-- ---- a dash
pub dash_equal : (v : List ℕ) → pointwise eqb v (45 ∷ []) ≡ same v (bytes "-")
unfolding same bytes
dash_equal [] = refl
dash_equal (a ∷ []) = refl
dash_equal (a ∷ b ∷ bs) = refl

-- ---- values
module _ (v : List ℕ) where
  pub dash_under : (i : ℕ) → same v (bytes "-") ≡ true → Dash ≡ value_under i v
  unfolding value_under word_value value_of
  dash_under i d = go (eqb i 0)
    where
      go : (b : Bool) → Dash ≡ cond b (word_value v) (value_of v)
      go true = rw d
      go false = rw d

  pub value_later : {i : ℕ} {x : Value} → (i ≡ 0 → ⊥) → x ≡ value_of v → x ≡ value_under i v
  unfolding value_under
  value_later {i} h e = rw (ne_eqb i 0 h) e

  pub value_call : {i : ℕ} {x : Value} → i ≡ 0 → x ≡ word_value v → x ≡ value_under i v
  unfolding value_under
  value_call h e = rw h e

  -- under `call`
  pub word_dash : same v (bytes "-") ≡ true → Dash ≡ word_value v
  unfolding word_value
  word_dash d = rw d

  module _ (d : same v (bytes "-") ≡ false) where
    pub word_place : {n : ℕ} → Some n ≡ place_in v words → Digits n ≡ word_value v
    unfolding word_value place_in
    word_place {n} e = rw d (go (ltb (column v words) (length words)) e)
      where
        go : (b : Bool) → Some n ≡ then_some b (column v words) → Digits n ≡ cond b (Digits (column v words)) Other
        go true e = let same : n ≡ column v words = cc in rw same
        go false e = let z : ◌≡◌ {A = ℕ} 0 1 = cc in absurd (omega arith)

    pub word_other : None ≡ place_in v words → Other ≡ word_value v
    unfolding word_value place_in
    word_other e = rw d (go (ltb (column v words) (length words)) e)
      where
        go : (b : Bool) → None ≡ then_some b (column v words) → Other ≡ cond b (Digits (column v words)) Other
        go true e = let z : ◌≡◌ {A = ℕ} 0 1 = cc in absurd (omega arith)
        go false e = refl

-- ---- what is found
pub found_any : (i from e : ℕ) (x : Value) (more : Bool) (s : List ℕ) → e ≡ length (leading (take (length s - from) (drop from s)))
    → more ≡ eqb (get_or s (from + e) 0) 32 → x ≡ value_under i (take e (take (length s - from) (drop from s)))
    → IsFound i s from (record { value = x; end = from + e; more = more })
found_any i from e x more s h m k =
    let g : e ≡ length (leading (drop from s)) = h ∙ ap (λ (l : List ℕ). length (leading l)) (to_end from s) in
    record {
      value = k ∙ ap (value_under i) (ap (take e) (to_end from s) ∙ ap (λ (n : ℕ). take n (drop from s)) g ∙ lead_take (drop from s));
      end = ap (λ (n : ℕ). from + n) g;
      more = m;
    }

-- by the bytes v that stand there
found_by : (i from : ℕ) (x : Value) (n : ℕ) (more : Bool) (s v : List ℕ) → leading (drop from s) ≡ v → length v ≡ n → x ≡ value_under i v
    → more ≡ eqb (get_or s (from + n) 0) 32 → IsFound i s from (record { value = x; end = from + n; more = more })
found_by i from x n more s v h l k m =
    record {
      value = k ∙ ap (value_under i) (sym h);
      end = ap (λ (m : ℕ). from + m) (sym l ∙ ap length (sym h));
      more = m;
    }

-- one digit, or a second one behind it
one_digit : (i a n : ℕ) → (i ≡ 0 → ⊥) → (48 ≤ a) × (a ≤ 57) → n ≡ 10 * 0 + (a - 48) → Digits n ≡ value_under i (a ∷ [])
unfolding all_digits number every
one_digit i a n h d e =
    let digits : all_digits (a ∷ []) ≡ true = rw (le-leb 48 a d.0, le-leb a 57 d.1) in
    ap Digits e ∙ value_later (a ∷ []) h (good_digits (a ∷ []) (omega arith) (omega arith) (other d) digits)
  where
    other : (48 ≤ a) × (a ≤ 57) → a ≡ 45 → ⊥
    other d e = omega arith

two_digits : (i a b n m : ℕ) → (i ≡ 0 → ⊥) → (48 ≤ a) × (a ≤ 57) → (48 ≤ b) × (b ≤ 57) → n ≡ 10 * 0 + (a - 48) → m ≡ 10 * n + (b - 48)
    → Digits m ≡ value_under i (a ∷ b ∷ [])
unfolding all_digits number every
two_digits i a b n m h d k e f =
    let digits : all_digits (a ∷ b ∷ []) ≡ true = rw (le-leb 48 a d.0, le-leb a 57 d.1, le-leb 48 b k.0, le-leb b 57 k.1) in
    ap Digits (f ∙ ap (λ (x : ℕ). 10 * x + (b - 48)) e) ∙ value_later (a ∷ b ∷ []) h (good_digits (a ∷ b ∷ []) (omega arith) (omega arith) (other d) digits)
  where
    other : (48 ≤ a) × (a ≤ 57) → a ≡ 45 → ⊥
    other d e = omega arith

module _ (i from a b : ℕ) (s : List ℕ) (l : from + 2 < length s) (x : a ≡ get_or s from 0) (y : b ≡ get_or s (from + 1) 0) where
  front : drop from s ≡ a ∷ b ∷ drop (from + 2) s
  front = drop_two s from (omega arith) ∙ (rw (← x, ← y))

  front_three : drop from s ≡ a ∷ b ∷ get_or s (from + 2) 0 ∷ drop (from + 3) s
  front_three = drop_three s from l ∙ (rw (← x, ← y))

  module _ (n : ℕ) (h : i ≡ 0 → ⊥) (d : (48 ≤ a) × (a ≤ 57)) (e : n ≡ 10 * 0 + (a - 48)) where
    pub found_one : b ≡ 32 → IsFound i s from (record { value = Digits n; end = from + 1; more = true })
    found_one z =
        found_by i from (Digits n) 1 true s (a ∷ []) (ap leading front ∙ lead_one a b _ (omega arith) z) refl (one_digit i a n h d e) (sym (eq-eqb _ _ (sym y ∙ z)))

    pub found_two : (m : ℕ) → (48 ≤ b) × (b ≤ 57) → m ≡ 10 * n + (b - 48) → get_or s (from + 2) 0 ≡ 32
        → IsFound i s from (record { value = Digits m; end = from + 2; more = true })
    found_two m k f z =
        found_by i from (Digits m) 2 true s (a ∷ b ∷ []) (ap leading front_three ∙ lead_two a b _ (omega arith) (omega arith) _ z) refl (two_digits i a b n m h d k e f)
        (sym (eq-eqb _ _ z))

pub dash_same : same (bytes "-") (bytes "-") ≡ true
unfolding same bytes
dash_same = refl

one_same : same (45 ∷ []) (bytes "-") ≡ true
unfolding same bytes
one_same = refl

-- a dash, and a byte behind it
module _ (i from p : ℕ) (s : List ℕ) (l : from + 2 < length s) (h : p ≡ get_or s from 0 + 256 * get_or s (from + 1) 0) (k : get_or s from 0 < 256) where
  pub found_last : p ≡ 2605 → IsFound i s from (record { value = Dash; end = from + 1; more = false })
  found_last e =
      let a : 45 ≡ get_or s from 0 = omega arith in
      let b : 10 ≡ get_or s (from + 1) 0 = omega arith in
      found_by i from Dash 1 false s (45 ∷ []) (ap leading (front i from 45 10 s l a b) ∙ lead_end 45 10 _ (omega arith) refl) refl (dash_under (45 ∷ []) i one_same) (rw (← b))

  pub found_dash : p ≡ 8237 → IsFound i s from (record { value = Dash; end = from + 1; more = true })
  found_dash e =
      let a : 45 ≡ get_or s from 0 = omega arith in
      let b : 32 ≡ get_or s (from + 1) 0 = omega arith in
      found_by i from Dash 1 true s (45 ∷ []) (ap leading (front i from 45 32 s l a b) ∙ lead_one 45 32 _ (omega arith) refl) refl (dash_under (45 ∷ []) i one_same) (rw (← b))

-- a word, and a space behind it
pub found_word : (i from n w : ℕ) (s : List ℕ) → i ≡ 0 → from + 6 < length s → Bytes s → Begins (drop from s) w n
    → IsFound i s from (record { value = Digits w; end = from + n; more = true })
found_word i from n w s h l b g =
    let t : length (drop from s) ≡ length s - from = length-drop from s in
    let x : Word (drop from s) (take n (drop from s)) w = word_known (drop from s) n w (bytes_drop from s b) g (omega (arith, g.within)) in
    found_by i from (Digits w) n true s (take n (drop from s)) x.leads (length-take-le n (drop from s) (omega (arith, g.within))) (value_call _ h (word_place _ x.no_dash x.place))
    (sym (eq-eqb _ _ (sym (get_or-drop from s n 0) ∙ g.space)))
