-- Tests as code makes them.
--     cond_yes, cond_no, yes_e, no_e, and_two, two_miss, two_last, unless      against what a contract lists
--     of_four                                                         a fact of each number below four
--     agree_e                                                         two tests that compute alike on a table
-- Assumes nothing.
use Prim.Native.Nat.{ℕ, zero, suc, ◌<◌}
use mathlib.Core.Bool.{Bool, true, false, not, ◌&&◌, ◌||◌, cond, and-true}
use mathlib.Core.List.{[], ◌∷◌}
use mathlib.Core.Path.{◌≡◌, refl, sym}
use native.Mathlib.Omega.{arith}
use Rattle.bitset.specs.Tests.{every, implies, all}
use Rattle.bitset.specs.Tests.Laws.{of_not_true, of_not_false, all_e}

pub cond_yes : (b x y z : Bool) → b ≡ true → x ≡ y → x ≡ cond b y z
cond_yes b x y z h e = rw h e

pub cond_no : (b x y z : Bool) → b ≡ false → x ≡ z → x ≡ cond b y z
cond_no b x y z h e = rw h e

pub yes_e : (b x y : Bool) → b ≡ true → cond b x y ≡ true → x ≡ true
yes_e b x y h k = rw h at k

pub no_e : (b x y : Bool) → b ≡ false → cond b x y ≡ true → y ≡ true
no_e b x y h k = rw h at k

pub and_two : (a b x y : Bool) → a ≡ x → b ≡ y → (a && b) ≡ every (x ∷ y ∷ [])
unfolding every
and_two a b x y p q = simp (p, q, and-true)

pub two_miss : (a x y : Bool) → a ≡ x → not a ≡ true → false ≡ every (x ∷ y ∷ [])
unfolding every
two_miss a x y e h = rw (← e, of_not_true a h)

pub two_last : (a b x y : Bool) → a ≡ x → not a ≡ false → b ≡ y → b ≡ every (x ∷ y ∷ [])
unfolding every
two_last a b x y e h f = rw (← e, of_not_false a h, f) (simp and-true)

pub unless : (a b y : Bool) → b ≡ y → (not a || b) ≡ implies a y
unfolding implies
unless true b y e = e
unless false b y e = refl

abbrev agree : Bool → Bool → Bool
agree true b = b
agree false b = not b

agree_true : (a b : Bool) → agree a b ≡ true → a ≡ b
agree_true true b h = sym h
agree_true false true h = h
agree_true false false h = refl

pub agree_e : (n : ℕ) (p q : ℕ → Bool) → all n (λ k. agree (p k) (q k)) ≡ true → (k : ℕ) → k < n → p k ≡ q k
agree_e n p q h k l = agree_true (p k) (q k) (all_e n _ h k l)

pub of_four : (P : ℕ → Type 0) → P 0 → P 1 → P 2 → P 3 → (n : ℕ) → n < 4 → P n
of_four P a b c d zero h = a
of_four P a b c d (suc zero) h = b
of_four P a b c d (suc (suc zero)) h = c
of_four P a b c d (suc (suc (suc zero))) h = d
of_four P a b c d (suc (suc (suc (suc n)))) h = absurd (omega arith)
