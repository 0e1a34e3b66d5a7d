-- Loops that take each record of a list by a function.
--     mapped                        the first i records by f, the others as they are
--     mapped_more, mapped_step      one record more
--     mapped_all, mapped_end         all of them
-- Assumes nothing.
use Prim.Native.Nat.{ℕ, zero, suc, ◌+◌}
use mathlib.Core.Path.{◌≡◌, refl, ap, ◌∙◌}
use mathlib.Core.List.{List, [], ◌∷◌, map}
use native.Mathlib.Numerals.{add-one}
use lib.ListN.{length, get_or, set}

module _ {A : Type 0} (f : A → A) where
  abbrev pub mapped : ℕ → List A → List A
  mapped zero l = l
  mapped (suc i) [] = []
  mapped (suc i) (x ∷ l) = f x ∷ mapped i l

  mapped_next : (i : ℕ) (l : List A) (d : A) → set (mapped i l) i (f (get_or (mapped i l) i d)) ≡ mapped (suc i) l
  mapped_next zero [] d = refl
  mapped_next zero (x ∷ l) d = refl
  mapped_next (suc i) [] d = refl
  mapped_next (suc i) (x ∷ l) d = ap (λ (k : List A). f x ∷ k) (mapped_next i l d)

  pub mapped_more : (i : ℕ) (l : List A) (d : A) → set (mapped i l) i (f (get_or (mapped i l) i d)) ≡ mapped (i + 1) l
  mapped_more i l d = rw add-one (mapped_next i l d)

  pub mapped_all : (l : List A) → mapped (length l) l ≡ map f l
  mapped_all [] = refl
  mapped_all (x ∷ l) = ap (λ (k : List A). f x ∷ k) (mapped_all l)

  mapped_done : (l : List A) (n : ℕ) → length l ≡ n → mapped n l ≡ map f l
  mapped_done l n h = rw (← h) (mapped_all l)

  pub mapped_step : (i : ℕ) (l n : List A) (d x : A) → n ≡ mapped i l → x ≡ f (get_or n i d) → set n i x ≡ mapped (i + 1) l
  mapped_step i l n d x h same = rw (same, h) (mapped_more i l d)

  pub mapped_end : (l n : List A) (i k : ℕ) → n ≡ mapped i l → i ≡ k → length l ≡ k → n ≡ map f l
  mapped_end l n i k h e long = h ∙ rw e (mapped_done l k long)
