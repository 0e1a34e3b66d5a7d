-- Loops that count up.
--     all_miss, all_next                              a loop that is left at the first miss
--     Listed, listed_none, listed_more                a loop that collects a set
--     all_of_list, all_of_range                       a chain that ends in `all`, over a list and over the numbers below n
--     long                                            the length of an array of records
-- Assumes nothing.
use Prim.Native.Nat.{ℕ, zero, suc, ◌+◌, ◌^◌, ◌≤◌, ◌<◌}
use mathlib.Core.Bool.{Bool, true, false, not, ◌&&◌, cond, and-true, and_assoc, and-eq-true_iff}
use mathlib.Core.List.{List, [], ◌∷◌, map}
use mathlib.Core.Path.{◌≡◌, refl, sym, ap, ◌∙◌}
use native.Mathlib.Decide.{dec_lt}
use native.Mathlib.Omega.{arith}
use lib.ListN.{length, get_or, length-map}
use Rattle.std.specs.List.{list_all, range_with_len}
use Rattle.std.proofs.lemmas.List.FromFn.{length-range_with_len, get_or-range_with_len}
use Rattle.bitset.specs.Sets.{has, with}
use Rattle.bitset.specs.Sets.Laws.{has_none, has_with_same, has_with_other, with_lt}
use Rattle.bitset.specs.Tests.{all}
use Rattle.bitset.specs.Tests.Laws.{is_false, clash, of_not_true, of_not_false, all_e, all_more, all_cong, none_below}

pub all_miss : (n i : ℕ) (p : ℕ → Bool) (r : Bool) → i < n → r ≡ p i → not r ≡ true → false ≡ all n p
all_miss n i p r l e h = sym (is_false (all n p) (λ k. clash (p i) (all_e n p k i l) (sym e ∙ of_not_true r h)))

pub all_next : (i : ℕ) (p : ℕ → Bool) (r : Bool) → all i p ≡ true → r ≡ p i → not r ≡ false → all (i + 1) p ≡ true
all_next i p r h e k = all_more i p ∙ (and-eq-true_iff (all i p) (p i)).1 (h, sym e ∙ of_not_false r k)

-- the members of s are the numbers below i that f tells
pub record Listed (w : ℕ) (f : ℕ → Bool) (i s : ℕ) : Type 0 where
  pub small : s < 2 ^ w
  pub below : (k : ℕ) → k < i → has s k ≡ f k
  pub above : (k : ℕ) → i ≤ k → has s k ≡ false

pub listed_none : (w : ℕ) (f : ℕ → Bool) → 0 < 2 ^ w → Listed w f 0 0
listed_none w f h = record { small = h; below = λ k l. absurd (none_below k l); above = λ k l. has_none k }

pub listed_more : (w : ℕ) (f : ℕ → Bool) (i s r : ℕ) → i < w → Listed w f i s → r ≡ cond (f i) (with s i) s → Listed w f (i + 1) r
listed_more w f i s r l h e = go (f i) refl
  where
    with_it : f i ≡ true → Listed w f (i + 1) (with s i)
    with_it q = record {
      small = with_lt w s i h.small l;
      below = λ k b. at k b (dec_lt k i);
      above = λ k b. has_with_other s i k (λ m. omega arith) ∙ h.above k (omega arith);
    }
      where
        at : (k : ℕ) → k < i + 1 → Dec (k < i) → has (with s i) k ≡ f k
        at k b (yes m) = has_with_other s i k (λ n. omega arith) ∙ h.below k m
        at k b (no m) = let n : k ≡ i = omega arith in rw n (has_with_same s i ∙ sym q)

    as_it_is : f i ≡ false → Listed w f (i + 1) s
    as_it_is q = record { small = h.small; below = λ k b. at k b (dec_lt k i); above = λ k b. h.above k (omega arith) }
      where
        at : (k : ℕ) → k < i + 1 → Dec (k < i) → has s k ≡ f k
        at k b (yes m) = h.below k m
        at k b (no m) = let n : k ≡ i = omega arith in rw n (h.above i (omega arith) ∙ sym q)

    go : (b : Bool) → f i ≡ b → Listed w f (i + 1) r
    go true q = let n : r ≡ with s i = rw q at e in rw n (with_it q)
    go false q = let n : r ≡ s = rw q at e in rw n (as_it_is q)

-- the length of an array of records, as what a parameter is known by has it
pub long : {X Y : Type 0} (f : X → Y) (l : List X) (n : ℕ) → length (map f l) ≡ n → length l ≡ n
long f l n e = sym (length-map l f) ∙ e

-- ---- chains that end in `all`
all_front : (n : ℕ) (p : ℕ → Bool) → all (suc n) p ≡ (p 0 && all n (λ k. p (suc k)))
unfolding all
all_front zero p = sym (and-true (p 0))
all_front (suc n) p = ap (λ (b : Bool). b && p (suc n)) (all_front n p) ∙ and_assoc (p 0) (all n (λ k. p (suc k))) (p (suc n))

pub all_of_list : {A : Type 0} (p : A → Bool) (l : List A) (d : A) (n : ℕ) → length l ≡ n → list_all p l ≡ all n (λ k. p (get_or l k d))
unfolding all
all_of_list p [] d zero e = refl
all_of_list p [] d (suc n) e = absurd (omega (arith, e))
all_of_list p (x ∷ l) d zero e = absurd (omega (arith, e))
all_of_list p (x ∷ l) d (suc n) e =
    ap (λ (b : Bool). p x && b) (all_of_list p l d n (omega (arith, e))) ∙ sym (all_front n (λ k. p (get_or (x ∷ l) k d)))

pub all_of_range : (n : ℕ) (p : ℕ → Bool) → list_all p (range_with_len 0 n) ≡ all n p
all_of_range n p =
    all_of_list p (range_with_len 0 n) 0 n (length-range_with_len 0 n)
    ∙ all_cong n _ p (λ k l. let here : 0 + k ≡ k = omega arith in ap p (get_or-range_with_len 0 n k 0 l ∙ here))
