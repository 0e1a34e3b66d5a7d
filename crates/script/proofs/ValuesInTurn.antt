-- The values of a line, one after the other, as a loop that goes from space to space meets them.
--     before_take, before_most, after_drop        what stands before the first delimiter, and after it
--     values_last, values_more, values_some       the first value and the others
--     to_end                                      a part up to the end
-- Assumes nothing.
use Prim.Native.Nat.{ℕ, suc, ◌-◌, ◌≤◌, ◌<◌}
use mathlib.Core.Path.{◌≡◌, refl, ap}
use mathlib.Core.Bool.{Bool, true, false, cond}
use mathlib.Core.List.{List, [], ◌∷◌}
use native.Mathlib.Decide.{dec_lt}
use native.Mathlib.Omega.{arith}
use lib.Dec.{eqb}
use lib.ListN.{length, get_or, take, drop, length-drop}
use lib.Seq.{take_all}
use Rattle.script.specs.Text.{values, onto, after}
use Rattle.script.specs.Private.Slices.{before}

pub before_take : (d : ℕ) (s : List ℕ) → take (length (before d s)) s ≡ before d s
unfolding before
before_take d [] = refl
before_take d (b ∷ s) = go (eqb b d) (before_take d s)
  where
    go : (t : Bool) → take (length (before d s)) s ≡ before d s → take (length (cond t [] (b ∷ before d s))) (b ∷ s) ≡ cond t [] (b ∷ before d s)
    go true h = refl
    go false h = ap (λ (l : List ℕ). b ∷ l) h

pub before_most : (d : ℕ) (s : List ℕ) → length (before d s) ≤ length s
unfolding before
before_most d [] = omega arith
before_most d (b ∷ s) = go (eqb b d) (before_most d s)
  where
    go : (t : Bool) → length (before d s) ≤ length s → length (cond t [] (b ∷ before d s)) ≤ suc (length s)
    go true h = omega arith
    go false h = omega arith

pub after_drop : (d : ℕ) (s : List ℕ) → drop (suc (length (before d s))) s ≡ after d s
unfolding before after
after_drop d [] = refl
after_drop d (b ∷ s) = go (eqb b d) (after_drop d s)
  where
    go : (t : Bool) → drop (suc (length (before d s))) s ≡ after d s → drop (length (cond t [] (b ∷ before d s))) s ≡ cond t s (after d s)
    go true h = refl
    go false h = h

pub values_more : (s : List ℕ) → length (before 32 s) < length s → values s ≡ before 32 s ∷ values (after 32 s)
unfolding before after values onto
values_more [] h = absurd (none h)
  where
    none : 0 < 0 → ⊥
    none k = omega arith
values_more (b ∷ s) h = go (eqb b 32) (values_more s) h
  where
    go : (t : Bool) → (length (before 32 s) < length s → values s ≡ before 32 s ∷ values (after 32 s)) → length (cond t [] (b ∷ before 32 s)) < suc (length s)
        → cond t ([] ∷ values s) (onto b (values s)) ≡ cond t [] (b ∷ before 32 s) ∷ values (cond t s (after 32 s))
    go true f k = refl
    go false f k = ap (onto b) (f (omega arith))

pub values_last : (s : List ℕ) → length s ≤ length (before 32 s) → values s ≡ before 32 s ∷ []
unfolding before values onto
values_last [] h = refl
values_last (b ∷ s) h = go (eqb b 32) (values_last s) h
  where
    none : suc (length s) ≤ 0 → ⊥
    none k = omega arith

    go : (t : Bool) → (length s ≤ length (before 32 s) → values s ≡ before 32 s ∷ []) → suc (length s) ≤ length (cond t [] (b ∷ before 32 s))
        → cond t ([] ∷ values s) (onto b (values s)) ≡ cond t [] (b ∷ before 32 s) ∷ []
    go true f k = absurd (none k)
    go false f k = ap (onto b) (f (omega arith))

pub to_end : (n : ℕ) (l : List ℕ) → take (length l - n) (drop n l) ≡ drop n l
to_end n l = take_all (length l - n) (drop n l) (rw length-drop (omega arith))

-- by the first value of what is left
pub first_value : (s : List ℕ) → get_or (values s) 0 [] ≡ before 32 s
first_value s = go (dec_lt (length (before 32 s)) (length s))
  where
    go : Dec (length (before 32 s) < length s) → get_or (values s) 0 [] ≡ before 32 s
    go (yes h) = rw (values_more s h)
    go (no h) = rw (values_last s (omega arith))

pub values_some : (s : List ℕ) → 0 < length (values s)
values_some s = go (dec_lt (length (before 32 s)) (length s))
  where
    go : Dec (length (before 32 s) < length s) → 0 < length (values s)
    go (yes h) = rw (values_more s h) (omega arith)
    go (no h) = rw (values_last s (omega arith)) (omega arith)
