-- Chains that ask whether some item of a list meets a test.
--     some_of_list      over a whole list
--     some_of_range     over a part of a list of numbers
-- Assumes nothing.
use Prim.Native.Nat.{ℕ, zero, suc, ◌+◌, ◌-◌, ◌≤◌}
use mathlib.Core.Path.{◌≡◌, refl, sym, ap, ◌∙◌}
use mathlib.Core.Bool.{Bool, ◌||◌, or-false, or_assoc}
use mathlib.Core.List.{List, [], ◌∷◌}
use native.Mathlib.Omega.{arith}
use lib.ListN.{length, get_or, drop, length-drop}
use Rattle.std.specs.List.{list_any, slice_range}
use Rattle.std.proofs.lemmas.List.{get_or-take, get_or-drop, length-take-le}
use Rattle.bitset.specs.Tests.{some}
use Rattle.bitset.specs.Tests.Laws.{some_cong}

some_front : (n : ℕ) (p : ℕ → Bool) → some (suc n) p ≡ (p 0 || some n (λ k. p (suc k)))
unfolding some
some_front zero p = sym (or-false (p 0))
some_front (suc n) p = ap (λ (b : Bool). b || p (suc n)) (some_front n p) ∙ or_assoc (p 0) (some n (λ k. p (suc k))) (p (suc n))

pub some_of_list : {A : Type 0} (p : A → Bool) (l : List A) (d : A) (n : ℕ) → length l ≡ n → list_any p l ≡ some n (λ k. p (get_or l k d))
unfolding some
some_of_list p [] d zero e = refl
some_of_list p [] d (suc n) e = absurd (omega (arith, e))
some_of_list p (x ∷ l) d zero e = absurd (omega (arith, e))
some_of_list p (x ∷ l) d (suc n) e =
    ap (λ (b : Bool). p x || b) (some_of_list p l d n (omega (arith, e))) ∙ sym (some_front n (λ k. p (get_or (x ∷ l) k d)))

pub some_of_range : (p : ℕ → Bool) (l : List ℕ) (a n : ℕ) → a + n ≤ length l → list_any p (slice_range l a (a + n)) ≡ some n (λ k. p (get_or l (a + k) 0))
some_of_range p l a n within =
    some_of_list p (slice_range l a (a + n)) 0 n long
    ∙ some_cong n _ _ (λ k h. ap p (get_or-take (a + n - a) (drop a l) k 0 (omega (arith, h)) ∙ get_or-drop a l k 0))
  where
    long : length (slice_range l a (a + n)) ≡ n
    long = let few : length (drop a l) ≡ length l - a = length-drop a l in length-take-le (a + n - a) (drop a l) (omega (arith, few, within)) ∙ omega arith
