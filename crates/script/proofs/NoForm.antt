-- A line with a value of no form can't be read.
--     line_none       one of its values has no form
-- Assumes nothing.
use Rattle.std.specs.Prelude.{None}
use Prim.Native.Nat.{ℕ, zero, suc, ◌<◌}
use mathlib.Core.Path.{◌≡◌, refl, ap, sym, ◌∙◌}
use mathlib.Core.Bool.{Bool, true, false, cond}
use mathlib.Core.List.{List, [], ◌∷◌}
use native.Mathlib.Omega.{arith}
use lib.Dec.{ltb}
use lib.ListN.{length, get_or}
use borrow.Author.Tests.{ltb-true}
use Rattle.bitset.specs.Tests.Laws.{clash}
use Rattle.script.specs.Text.{bytes, same}
use Rattle.script.specs.Names.{column}
use Rattle.script.specs.Line.{value_of, words, used, Numbers, unreadable, joined, taken, take_each, asks, line_of}
use Rattle.script.specs.Private.Rows.{word_value, value_under, has_form, name_count, field_count, members}
use Rattle.script.specs.declared.line.Value.{Value}
use Rattle.script.specs.declared.line.Value.TheVariants.{Digits, Dash, Other}
use Rattle.script.proofs.FieldsTaken.{table_used}
use Rattle.script.proofs.WordAtFront.{words_length}
use Rattle.script.proofs.LineOfRow.{under_later, no_values}

taken_other : (b : Bool) (x : Numbers) → taken b Other x ≡ unreadable
unfolding taken
taken_other true x = refl
taken_other false x = refl

taken_none : (b : Bool) (y : Value) → taken b y unreadable ≡ unreadable
unfolding taken joined
taken_none true (Digits n) = refl
taken_none true Dash = refl
taken_none true Other = refl
taken_none false (Digits n) = refl
taken_none false Dash = refl
taken_none false Other = refl

take_all_other : (bs : List Bool) (ws : List (List ℕ)) (k : ℕ) → length bs ≡ length ws → k < length ws → value_of (get_or ws k []) ≡ Other → take_each bs ws ≡ unreadable
unfolding take_each
take_all_other bs [] k h l e = absurd (none l)
  where
    none : k < 0 → ⊥
    none z = omega arith
take_all_other [] (w ∷ ws) k h l e = absurd (none h)
  where
    none : 0 ≡ suc (length ws) → ⊥
    none z = omega arith
take_all_other (b ∷ bs) (w ∷ ws) zero h l e = rw e (taken_other b (take_each bs ws))
take_all_other (b ∷ bs) (w ∷ ws) (suc k) h l e =
    ap (taken b (value_of w)) (take_all_other bs ws k (omega arith) (omega arith) e) ∙ taken_none b (value_of w)

members_length : (s i n : ℕ) → length (members s i n) ≡ n
unfolding members
members_length s i zero = refl
members_length s i (suc n) = ap suc (members_length s (suc i) n)

other_value : (y : Value) → has_form y ≡ false → y ≡ Other
unfolding has_form
other_value (Digits m) h = absurd (clash true refl h)
other_value Dash h = absurd (clash true refl h)
other_value Other h = refl

-- a word that is none of the words
unknown_word : (w : List ℕ) → has_form (value_under 0 w) ≡ false → ltb (column w words) (length words) ≡ false
unfolding value_under word_value has_form
unknown_word w h = go (same w (bytes "-")) (ltb (column w words) (length words)) h
  where
    go : (b t : Bool) → has_form (cond b Dash (cond t (Digits (column w words)) Other)) ≡ false → t ≡ false
    go true t h = absurd (clash true refl h)
    go false true h = absurd (clash true refl h)
    go false false h = refl

pub line_none : (us : List (List ℕ)) (i : ℕ) → length us ≡ name_count → i < name_count → has_form (value_under i (get_or us i [])) ≡ false → None ≡ line_of us
unfolding line_of asks
line_none [] i t l h = absurd (no_values t)
line_none (w ∷ ws) zero t l h = rw (unknown_word w h)
line_none (w ∷ ws) (suc k) t l h = go (ltb (column w words) (length words)) refl
  where
    none : value_of (get_or ws k []) ≡ Other
    none = other_value (value_of (get_or ws k [])) (rw under_later at h)

    go : (b : Bool) → ltb (column w words) (length words) ≡ b → None ≡ cond b (asks (column w words) (take_each (used (column w words)) ws)) None
    go true e =
        let n : length (used (column w words)) ≡ field_count = sym (ap length (table_used (column w words) (omega (arith, ltb-true (column w words) (length words) e, words_length)))) ∙ members_length _ 1 field_count in
        bad (take_all_other (used (column w words)) ws k (omega arith) (omega arith) none)
      where
        bad : {x : Numbers} → x ≡ unreadable → None ≡ asks (column w words) x
        bad e = rw e
    go false e = refl
