-- The row of a line under a good header: each name's value, from the place where the name stands.
--     is_number, number_or                    a value as a number
--     fine_at, fine_none                      each value has a form, or one has none
--     row_number, row_given, row_form         a name's number, whether it is given, and that it has a form
--     row_none                                a name whose value has no form
-- Assumes nothing.
use Prim.Native.Nat.{ℕ, zero, suc, ◌%◌, ◌≤◌, ◌<◌}
use mathlib.Core.Path.{◌≡◌, refl, ap, sym, ◌∙◌}
use mathlib.Core.Bool.{Bool, true, false, ◌&&◌, and-eq-true_iff}
use mathlib.Core.List.{List, []}
use native.Mathlib.Decide.{dec_lt}
use native.Mathlib.Nat.{mod-eq_of_lt}
use native.Mathlib.Omega.{arith}
use lib.ListN.{length, get_or, length-set, get_or-eq_default}
use lib.Seq.{get_or-set_same, get_or-set_other}
use Rattle.bitset.specs.Sets.{has}
use Rattle.bitset.specs.Sets.Laws.{has_none, has_with_same, has_with_other}
use Rattle.bitset.specs.Tests.Laws.{clash, none_below}
use Rattle.script.specs.Text.{bytes}
use Rattle.script.specs.Names.{under, Ordered}
use Rattle.script.specs.Private.Rows.{value_under, name_at, value_in, name_count, blank, put_under, mark_under, has_form, gathered, marked, fine}
use Rattle.script.specs.declared.line.Value.{Value}
use Rattle.script.specs.declared.line.Value.TheVariants.{Digits, Dash, Other}
use Rattle.script.proofs.FoundValue.{dash_under, dash_same}
use Rattle.script.proofs.NamePlaces.{any_default, place_of, place_at, at_lt, at_place, under_at}

-- ---- a value as a number
unfoldable pub is_number : Value → Bool
is_number (Digits n) = true
is_number Dash = false
is_number Other = false

unfoldable pub number_or : ℕ → Value → ℕ
number_or d (Digits n) = n
number_or d Dash = d
number_or d Other = d

-- ---- each value has a form
module _ (at : List ℕ) (vs : List (List ℕ)) where
  fine_at : (n k : ℕ) → fine at vs n ≡ true → k < n → has_form (value_in at vs k) ≡ true
  unfolding fine
  fine_at zero k h l = absurd (none_below k l)
  fine_at (suc n) k h l = go (dec_lt k n) (fine_at n k)
    where
      parts : (fine at vs n ≡ true) × (has_form (value_in at vs n) ≡ true)
      parts = (and-eq-true_iff (fine at vs n) (has_form (value_in at vs n))).0 h

      go : Dec (k < n) → (fine at vs n ≡ true → k < n → has_form (value_in at vs k) ≡ true) → has_form (value_in at vs k) ≡ true
      go (yes m) ih = ih parts.0 m
      go (no m) ih = let e : k ≡ n = omega arith in rw e parts.1

  fine_none : (n : ℕ) → fine at vs n ≡ false → (k : ℕ) × (k < n) × (has_form (value_in at vs k) ≡ false)
  unfolding fine
  fine_none zero h = absurd (clash true refl h)
  fine_none (suc n) h = go (has_form (value_in at vs n)) refl (fine at vs n) refl h (fine_none n)
    where
      go : (a : Bool) → has_form (value_in at vs n) ≡ a → (b : Bool) → fine at vs n ≡ b → (b && a) ≡ false
          → (fine at vs n ≡ false → (k : ℕ) × (k < n) × (has_form (value_in at vs k) ≡ false))
          → (k : ℕ) × (k < suc n) × (has_form (value_in at vs k) ≡ false)
      go false e b f h ih = (n, omega arith, e)
      go true e true f h ih = absurd (clash true refl h)
      go true e false f h ih = let (k, l, m) = ih f in (k, omega arith, m)

  gathered_length : (n : ℕ) → length (gathered at vs n) ≡ 16
  unfolding gathered blank put_under
  gathered_length zero = refl
  gathered_length (suc n) = go (value_in at vs n) (gathered_length n)
    where
      go : (x : Value) → length (gathered at vs n) ≡ 16 → length (put_under (gathered at vs n) (name_at at n) x) ≡ 16
      go (Digits a) ih = length-set (gathered at vs n) (name_at at n) a ∙ ih
      go Dash ih = ih
      go Other ih = ih

-- ---- under a good header
apart : {a b : ℕ} → a < b → a ≡ b → ⊥
apart h e = omega arith

-- a dash is one under every name
dash_value : (i : ℕ) → value_under i (bytes "-") ≡ Dash
dash_value i = sym (dash_under (bytes "-") i dash_same)

module _ {h : List (List ℕ)} {at : List ℕ} (o : Ordered h at) (vs : List (List ℕ)) (many : length vs ≡ length h) where
  name_at_lem : (n : ℕ) → n < length h → name_at at n ≡ get_or at n 0
  name_at_lem n l = mod-eq_of_lt (omega (arith, at_lt o n l))

  -- a name that stands elsewhere
  other : (n i : ℕ) → n < length h → (place_of h i ≡ n → ⊥) → i ≡ name_at at n → ⊥
  other n i l k e = k (ap (place_of h) (e ∙ name_at_lem n l) ∙ at_place o n l)

  gathered_before : (n i : ℕ) → n ≤ length h → n ≤ place_of h i → get_or (gathered at vs n) i 0 ≡ get_or blank i 0
  unfolding gathered put_under
  gathered_before zero i m k = refl
  gathered_before (suc n) i m k = go (value_in at vs n) (gathered_before n i (omega arith) (omega arith))
    where
      later : suc n ≤ place_of h i → place_of h i ≡ n → ⊥
      later k e = omega arith

      go : (x : Value) → get_or (gathered at vs n) i 0 ≡ get_or blank i 0 → get_or (put_under (gathered at vs n) (name_at at n) x) i 0 ≡ get_or blank i 0
      go (Digits a) ih = get_or-set_other (gathered at vs n) (name_at at n) i a 0 (other n i (omega arith) (later k)) ∙ ih
      go Dash ih = ih
      go Other ih = ih

  marked_before : (n i : ℕ) → n ≤ length h → n ≤ place_of h i → has (marked at vs n) i ≡ false
  unfolding marked mark_under
  marked_before zero i m k = has_none i
  marked_before (suc n) i m k = go (value_in at vs n) (marked_before n i (omega arith) (omega arith))
    where
      later : suc n ≤ place_of h i → place_of h i ≡ n → ⊥
      later k e = omega arith

      go : (x : Value) → has (marked at vs n) i ≡ false → has (mark_under (marked at vs n) (name_at at n) x) i ≡ false
      go (Digits a) ih = has_with_other (marked at vs n) (name_at at n) i (other n i (omega arith) (later k)) ∙ ih
      go Dash ih = ih
      go Other ih = ih

  module _ (i : ℕ) (l : i < name_count) where
    here : (n : ℕ) → n < length h → place_of h i ≡ n → name_at at n ≡ i
    here n b e = ap (λ (k : ℕ). get_or at k 0 % 16) (sym e) ∙ ap (λ (k : ℕ). k % 16) (place_at o i l (rw e b)) ∙ mod-eq_of_lt (omega arith)

    gathered_at : (n : ℕ) → n ≤ length h → place_of h i < n → get_or (gathered at vs n) i 0 ≡ number_or (get_or blank i 0) (value_in at vs (place_of h i))
    unfolding gathered put_under number_or
    gathered_at zero m k = absurd (none_below _ k)
    gathered_at (suc n) m k = go (dec_lt (place_of h i) n) (value_in at vs n) refl (gathered_at n (omega arith))
      where
        go : Dec (place_of h i < n) → (x : Value) → value_in at vs n ≡ x
            → (place_of h i < n → get_or (gathered at vs n) i 0 ≡ number_or (get_or blank i 0) (value_in at vs (place_of h i)))
            → get_or (put_under (gathered at vs n) (name_at at n) x) i 0 ≡ number_or (get_or blank i 0) (value_in at vs (place_of h i))
        go (yes q) (Digits a) e ih = get_or-set_other (gathered at vs n) (name_at at n) i a 0 (other n i (omega arith) (apart q)) ∙ ih q
        go (yes q) Dash e ih = ih q
        go (yes q) Other e ih = ih q
        go (no q) (Digits a) e ih =
            let this : place_of h i ≡ n = omega arith in
            rw (this, e, here n (omega arith) this) (get_or-set_same (gathered at vs n) i a 0 (omega (arith, gathered_length at vs n)))
        go (no q) Dash e ih =
            let this : place_of h i ≡ n = omega arith in rw (this, e) (gathered_before n i (omega arith) (omega arith))
        go (no q) Other e ih =
            let this : place_of h i ≡ n = omega arith in rw (this, e) (gathered_before n i (omega arith) (omega arith))

    marked_at : (n : ℕ) → n ≤ length h → place_of h i < n → has (marked at vs n) i ≡ is_number (value_in at vs (place_of h i))
    unfolding marked mark_under is_number
    marked_at zero m k = absurd (none_below _ k)
    marked_at (suc n) m k = go (dec_lt (place_of h i) n) (value_in at vs n) refl (marked_at n (omega arith))
      where
        go : Dec (place_of h i < n) → (x : Value) → value_in at vs n ≡ x
            → (place_of h i < n → has (marked at vs n) i ≡ is_number (value_in at vs (place_of h i)))
            → has (mark_under (marked at vs n) (name_at at n) x) i ≡ is_number (value_in at vs (place_of h i))
        go (yes q) (Digits a) e ih = has_with_other (marked at vs n) (name_at at n) i (other n i (omega arith) (apart q)) ∙ ih q
        go (yes q) Dash e ih = ih q
        go (yes q) Other e ih = ih q
        go (no q) (Digits a) e ih =
            let this : place_of h i ≡ n = omega arith in
            rw (this, e, here n (omega arith) this) (has_with_same (marked at vs n) i)
        go (no q) Dash e ih =
            let this : place_of h i ≡ n = omega arith in rw (this, e) (marked_before n i (omega arith) (omega arith))
        go (no q) Other e ih =
            let this : place_of h i ≡ n = omega arith in rw (this, e) (marked_before n i (omega arith) (omega arith))

    -- the name stands in the header, or its field counts as a dash
    value_there : place_of h i < length h → value_in at vs (place_of h i) ≡ value_under i (get_or (under h vs) i [])
    unfolding value_in
    value_there m = rw (here (place_of h i) m refl, under_at o vs i l) (ap (value_under i) (any_default vs (place_of h i) [] (bytes "-") (rw many m)))

    value_lacking : length h ≤ place_of h i → value_under i (get_or (under h vs) i []) ≡ Dash
    value_lacking m = ap (value_under i) (under_at o vs i l ∙ get_or-eq_default vs (bytes "-") {n = place_of h i} (rw many m)) ∙ dash_value i

    pub row_number : get_or (gathered at vs (length h)) i 0 ≡ number_or (get_or blank i 0) (value_under i (get_or (under h vs) i []))
    unfolding number_or
    row_number = go (dec_lt (place_of h i) (length h))
      where
        go : Dec (place_of h i < length h)
            → get_or (gathered at vs (length h)) i 0 ≡ number_or (get_or blank i 0) (value_under i (get_or (under h vs) i []))
        go (yes m) = rw (← value_there m) (gathered_at (length h) (omega arith) m)
        go (no m) = rw (value_lacking (omega arith)) (gathered_before (length h) i (omega arith) (omega arith))

    pub row_given : has (marked at vs (length h)) i ≡ is_number (value_under i (get_or (under h vs) i []))
    unfolding is_number
    row_given = go (dec_lt (place_of h i) (length h))
      where
        go : Dec (place_of h i < length h) → has (marked at vs (length h)) i ≡ is_number (value_under i (get_or (under h vs) i []))
        go (yes m) = rw (← value_there m) (marked_at (length h) (omega arith) m)
        go (no m) = rw (value_lacking (omega arith)) (marked_before (length h) i (omega arith) (omega arith))

    pub row_form : fine at vs (length h) ≡ true → has_form (value_under i (get_or (under h vs) i [])) ≡ true
    unfolding has_form
    row_form f = go (dec_lt (place_of h i) (length h))
      where
        go : Dec (place_of h i < length h) → has_form (value_under i (get_or (under h vs) i [])) ≡ true
        go (yes m) = rw (← value_there m) (fine_at at vs (length h) (place_of h i) f m)
        go (no m) = rw (value_lacking (omega arith))

  pub row_none : fine at vs (length h) ≡ false → (i : ℕ) × (i < name_count) × (has_form (value_under i (get_or (under h vs) i [])) ≡ false)
  row_none f =
      let (k, l, m) = fine_none at vs (length h) f in
      let i = get_or at k 0 in
      let n : i < name_count = at_lt o k l in
      let place : place_of h i ≡ k = at_place o k l in
      (i, n, rw (← value_there i n (rw place l), place) m)
