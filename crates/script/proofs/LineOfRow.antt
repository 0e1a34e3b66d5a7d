-- The values of a line, one under each name, by their numbers.
--     Fit, take_all_from                         the fields of a line are those of its row
--     Held                                      the values in the sample's order, by their numbers
--     under_later, no_values                    a value that is no word; a line has values
--     line_unknown, line_known                  what the line asks: an unknown word; a word
-- Assumes nothing.
use Rattle.std.specs.Prelude.{None}
use Prim.Native.Nat.{ℕ, zero, suc, ◌+◌, ◌≤◌, ◌<◌}
use mathlib.Core.Path.{◌≡◌, refl, ap, sym, ◌∙◌}
use mathlib.Core.Bool.{Bool, true, false, cond}
use mathlib.Core.List.{List, [], ◌∷◌}
use native.Mathlib.Nat.{add-zero}
use native.Mathlib.Omega.{arith}
use lib.Dec.{ltb, eqb}
use lib.ListN.{length, get_or}
use borrow.Author.Tests.{lt-ltb, le-ltb, ltb-false, eqb-true}
use Rattle.bitset.specs.Sets.{has}
use Rattle.bitset.specs.Tests.{all}
use Rattle.bitset.specs.Tests.Laws.{all_e, clash}
use Rattle.script.specs.Text.{bytes, same}
use Rattle.script.specs.Names.{column}
use Rattle.script.specs.Line.{value_of, request_words, words, used, Numbers, these, taken, take_each, asks, line_of}
use Rattle.script.specs.Private.Rows.{word_value, value_under, has_form, no_word, name_count, field_count, blank, taken_as, joins, take_from, members}
use Rattle.script.specs.declared.line.Value.{Value}
use Rattle.script.specs.declared.line.Value.TheVariants.{Digits, Dash, Other}
use Rattle.script.proofs.ByKey.{same_eq}
use Rattle.script.proofs.FieldsTaken.{step_on}
use Rattle.script.proofs.NamePlaces.{column_most}
use Rattle.script.proofs.WordAtFront.{words_length}
use Rattle.script.proofs.FoundValue.{value_later}
use Rattle.script.proofs.RowUnderHeader.{is_number, number_or}

-- ---- fields
-- a value, by whether it is a number and which
pub data Fit : Value → Bool → ℕ → Type 0 where
  digits : (n : ℕ) → Fit (Digits n) true n
  dash : Fit Dash false 0

fit_taken : (b : Bool) {y : Value} {g : Bool} {n : ℕ} (x : Numbers) → Fit y g n → taken b y x ≡ joins (taken_as b g n) x
unfolding taken joins taken_as
fit_taken true x (digits n) = refl
fit_taken false x (digits n) = refl
fit_taken true x dash = refl
fit_taken false x dash = refl

take_all_from : (u g : ℕ) (v : List ℕ) (i n : ℕ) (ws : List (List ℕ)) → length ws ≡ n
    → ((k : ℕ) → k < n → Fit (value_of (get_or ws k [])) (has g (i + k)) (get_or v (i + k) 0))
    → take_each (members u i n) ws ≡ take_from u g v i n (these [])
unfolding take_each members take_from
take_all_from u g v i zero ws h f = refl
take_all_from u g v i (suc n) [] h f = absurd (none h)
  where
    none : 0 ≡ suc n → ⊥
    none e = omega arith
take_all_from u g v i (suc n) (w ∷ ws) h f =
    let here : Fit (value_of w) (has g i) (get_or v i 0) = rw add-zero at (f 0 (omega arith)) in
    let rest : take_each (members u (suc i) n) ws ≡ take_from u g v (suc i) n (these []) = take_all_from u g v (suc i) n ws (omega arith) (λ k l. rw step_on (f (suc k) (omega arith))) in
    fit_taken (has u i) (take_each (members u (suc i) n) ws) here ∙ ap (joins (taken_as (has u i) (has g i) (get_or v i 0))) rest

-- ---- the values in the sample's order
pub record Held (us : List (List ℕ)) (vals : List ℕ) (given : ℕ) : Type 0 where
  pub whole : length us ≡ name_count
  pub number : (i : ℕ) → i < name_count → get_or vals i 0 ≡ number_or (get_or blank i 0) (value_under i (get_or us i []))
  pub mark : (i : ℕ) → i < name_count → has given i ≡ is_number (value_under i (get_or us i []))
  pub form : (i : ℕ) → i < name_count → has_form (value_under i (get_or us i [])) ≡ true

pub no_values : ◌≡◌ {A = ℕ} 0 name_count → ⊥
no_values e = omega arith

-- a value that is no word
pub under_later : (i : ℕ) (w : List ℕ) → value_under (suc i) w ≡ value_of w
under_later i w = sym (value_later w (λ e. later e) refl)
  where
    later : suc i ≡ 0 → ⊥
    later e = omega arith

blank_zeros : all 15 (λ k. eqb (get_or blank (suc k) 0) 0) ≡ true
unfolding all blank
blank_zeros = refl

blank_later : (k : ℕ) → k < field_count → get_or blank (suc k) 0 ≡ 0
blank_later k l = eqb-true _ _ (all_e 15 (λ k. eqb (get_or blank (suc k) 0) 0) blank_zeros k (omega arith))

fits : (y : Value) (g : Bool) (n z : ℕ) → g ≡ is_number y → n ≡ number_or z y → z ≡ 0 → has_form y ≡ true → Fit y g n
unfolding is_number number_or has_form
fits (Digits m) g n z a b c f = rw (a, b) (digits m)
fits Dash g n z a b c f = rw (a, b, c) dash
fits Other g n z a b c f = absurd (clash false f refl)

module _ {us : List (List ℕ)} {vals : List ℕ} {given : ℕ} (c : Held us vals given) where
  later : (k : ℕ) → k < field_count → Fit (value_of (get_or us (suc k) [])) (has given (suc k)) (get_or vals (suc k) 0)
  later k l =
      fits (value_of (get_or us (suc k) [])) _ _ (get_or blank (suc k) 0)
      (rw under_later at (c.mark (suc k) (omega arith)))
      (rw under_later at (c.number (suc k) (omega arith)))
      (blank_later k l)
      (rw under_later at (c.form (suc k) (omega arith)))

dash_word : column (bytes "-") words ≡ no_word
unfolding column words request_words same bytes
dash_word = refl

first_word : (w : List ℕ) {n : ℕ} → n ≡ number_or (get_or blank 0 0) (value_under 0 w) → n ≡ column w words
unfolding value_under word_value number_or blank
first_word w e = e ∙ go (same w (bytes "-")) refl (ltb (column w words) (length words)) refl
  where
    go : (b : Bool) → same w (bytes "-") ≡ b → (t : Bool) → ltb (column w words) (length words) ≡ t
        → number_or no_word (cond b Dash (cond t (Digits (column w words)) Other)) ≡ column w words
    go true h t k = sym (ap (λ (v : List ℕ). column v words) (same_eq w (bytes "-") h) ∙ dash_word)
    go false h true k = refl
    go false h false k = omega (arith, column_most w words, ltb-false _ _ k, words_length)

-- ---- lines
pub line_unknown : (us : List (List ℕ)) (vals : List ℕ) (g : ℕ) → Held us vals g → no_word ≤ get_or vals 0 0 → None ≡ line_of us
unfolding line_of
line_unknown [] vals g c h = absurd (no_values c.whole)
line_unknown (w ∷ ws) vals g c h =
    let e : get_or vals 0 0 ≡ column w words = first_word w (c.number 0 (omega arith)) in
    rw (words_length, le-ltb (column w words) no_word (rw (← e) h))

one_more : (k : ℕ) → 1 + k ≡ suc k
one_more k = omega arith

pub line_known : (us : List (List ℕ)) (vals : List ℕ) (g u : ℕ) → Held us vals g → get_or vals 0 0 < no_word → members u 1 field_count ≡ used (get_or vals 0 0)
    → asks (get_or vals 0 0) (take_from u g vals 1 field_count (these [])) ≡ line_of us
unfolding line_of
line_known [] vals g u c h m = absurd (no_values c.whole)
line_known (w ∷ ws) vals g u c h m =
    let e : get_or vals 0 0 ≡ column w words = first_word w (c.number 0 (omega arith)) in
    let f : take_each (members u 1 field_count) ws ≡ take_from u g vals 1 field_count (these []) = take_all_from u g vals 1 field_count ws (omega (arith, c.whole)) (λ k l. rw one_more (later c k l)) in
    rw (words_length, ← e, lt-ltb (get_or vals 0 0) no_word h, ← m, f)
