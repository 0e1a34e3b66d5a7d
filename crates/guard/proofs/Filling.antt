-- Lists that a function gives, number by number.
--     length_tabulate, get_d_tabulate       as many as there are numbers; what stands at one
--     tabulate_is           a list with these elements is it
--     made_at, tabulated     what an array that `from_fn` makes has at a place; the array
--     every_two       a list of two tests, the first of which is met
-- Assumes nothing.
use Prim.Native.Nat.{ℕ, zero, suc, ◌+◌, ◌≤◌, ◌<◌}
use denote.Param.Members.{Mut, Called}
use mathlib.Core.Path.{◌≡◌, refl, sym, ◌∙◌}
use mathlib.Core.Bool.{Bool, true, and-true}
use mathlib.Core.List.{List, [], ◌∷◌, ◌++◌}
use native.Mathlib.Numerals.{add-one}
use native.Mathlib.Decide.{dec_lt, ℕ_discrete}
use native.Mathlib.Omega.{arith}
use lib.ListN.{length, get_or, length-append, get_or-append}
use lib.Seq.{get_or-append_seam, ext_get_or}
use Rattle.std.specs.Array.{IsFromFnResultFrom, IsFromFnResult}
use Rattle.bitset.specs.Tests.{every}
use Rattle.guard.specs.Fresh.{tabulate}

pub every_two : (a b : Bool) → a ≡ true → every (a ∷ b ∷ []) ≡ b
unfolding every
every_two a b h = rw h (and-true b)

pub length_tabulate : {A : Type 0} (f : ℕ → A) (i : ℕ) → length (tabulate i f) ≡ i
unfolding tabulate
length_tabulate f zero = refl
length_tabulate f (suc i) = length-append (tabulate i f) (f i ∷ []) ∙ rw (length_tabulate f i) (add-one i)

pub get_d_tabulate : {A : Type 0} (f : ℕ → A) (n i : ℕ) (d : A) → i < n → get_or (tabulate n f) i d ≡ f i
unfolding tabulate
get_d_tabulate f zero i d h = absurd (omega arith)
get_d_tabulate f (suc n) i d h = go (dec_lt i n) (get_d_tabulate f n i d)
  where
    go : Dec (i < n) → (i < n → get_or (tabulate n f) i d ≡ f i) → get_or (tabulate n f ++ (f n ∷ [])) i d ≡ f i
    go (yes l) before = get_or-append (tabulate n f) (f n ∷ []) d i (rw (length_tabulate f n) l) ∙ before l
    go (no l) before =
        let last : i ≡ n = omega arith in
        rw last (rw (length_tabulate f n) at (get_or-append_seam (tabulate n f) (f n) [] d))

pub tabulate_is : {A : Type 0} (n : ℕ) (f : ℕ → A) (l : List A) (d : A) → length l ≡ n → ((i : ℕ) → i < n → f i ≡ get_or l i d) → tabulate n f ≡ l
tabulate_is n f l d long same =
    let many = length_tabulate f n in
    ext_get_or d (tabulate n f) l (many ∙ sym long) (λ i h. get_d_tabulate f n i d (rw many at h) ∙ same i (rw many at h))

-- an array that `from_fn` makes, by a function that keeps its state
module _ {F B : Type 0} (g : Mut F (ℕ × Unit {0}) B) (f : ℕ → B) (s : F) (ys : List B) (each : (i : ℕ) (y : B) (q : F) → Called g s (i, tt) y q → (q ≡ s) × (y ≡ f i)) where
  made_from : (n i : ℕ) → IsFromFnResultFrom g s ys i n → (k : ℕ) (d : B) → i ≤ k → k < i + n → get_or ys k d ≡ f k
  made_from zero i made k d l h = absurd (omega arith)
  made_from (suc n) i (q, y, here, call, more) k d l h =
      let (same, is) = each i y q call in
      go (ℕ_discrete k i) is (made_from n (i + 1) (rw same at more) k d)
    where
      go : Dec (k ≡ i) → y ≡ f i → (i + 1 ≤ k → k < i + 1 + n → get_or ys k d ≡ f k) → get_or ys k d ≡ f k
      go (yes e) is f = rw e (here.1 d ∙ is)
      go (no e) is f = f (omega (arith, e)) (omega arith)

  pub made_at : (n : ℕ) → IsFromFnResult g s ys n → (i : ℕ) (d : B) → i < n → get_or ys i d ≡ f i
  made_at n made i d h = made_from n 0 made.each i d (omega arith) (omega arith)

  pub tabulated : (n : ℕ) → IsFromFnResult g s ys n → ys ≡ tabulate n f
  tabulated n made = sym (tabulate_is n f ys (f 0) made.long (λ i h. sym (made_at n made i (f 0) h)))
