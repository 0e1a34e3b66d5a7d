-- What the code computes on words of w bits is the operation of specs/Sets, at any w.
--     has_code, one_shifted, with_code, minus_code, without_code, without_past, with_word, minus_word, without_word
-- Assumes nothing.
use Prim.Native.Nat.{ℕ, ◌-◌, ◌*◌, ◌/◌, ◌%◌, ◌^◌, ◌≤◌, ◌<◌}
use mathlib.Core.Bool.{not, and_assoc}
use mathlib.Core.Path.{◌≡◌, sym, ap, subst, ◌∙◌}
use native.Mathlib.Nat.{one-mul, mod-eq_of_lt, mod-lt, lt_of_lt_of_le, lt_of_le_of_lt}
use native.Mathlib.Omega.{arith}
use lib.Bits.{bit_and, bit_or, and_mask, and_comm, and_shifted}
use lib.Dec.{eqb}
use lib.Pow.{pow-lt, pow_mono}
use Rattle.bitset.specs.Sets.{has, join, minus, with, without}
use Rattle.bitset.specs.Sets.Laws.{sets_ext, has_meet, has_minus, minus_add_meet, minus_le, without_le, with_lt}

pub has_code : (s i : ℕ) → eqb (bit_and (s / 2 ^ i) 1) 1 ≡ has s i
unfolding has
has_code s i = rw (and_mask (s / 2 ^ i) 1)

pub one_shifted : (w k : ℕ) → k < w → (1 * 2 ^ k) % 2 ^ w ≡ 2 ^ k
one_shifted w k h = rw one-mul (mod-eq_of_lt (pow-lt h))

pub with_code : (w s i : ℕ) → i < w → bit_or s ((1 * 2 ^ i) % 2 ^ w) ≡ with s i
unfolding with join
with_code w s i h = ap (bit_or s) (one_shifted w i h)

-- each member below w is one of the mask of w ones
under_mask : (w s : ℕ) → s < 2 ^ w → bit_and s (2 ^ w - 1) ≡ s
under_mask w s h = and_mask s w ∙ mod-eq_of_lt h

-- so the complement takes from the mask
pub complement : (w m : ℕ) → m < 2 ^ w → 2 ^ w - 1 - m ≡ minus (2 ^ w - 1) m
complement w m h = omega (arith, minus_add_meet (2 ^ w - 1) m, and_comm (2 ^ w - 1) m ∙ under_mask w m h)

meet_minus : (s t m : ℕ) → bit_and s (minus t m) ≡ minus (bit_and s t) m
meet_minus s t m = sets_ext _ _ (λ i. simp (has_meet, has_minus) (sym (and_assoc (has s i) (has t i) (not (has m i)))))

pub minus_code : (w s m : ℕ) → s < 2 ^ w → m < 2 ^ w → bit_and s (2 ^ w - 1 - m) ≡ minus s m
minus_code w s m h l = rw (complement w m, meet_minus, under_mask w s)

pub without_code : (w s i : ℕ) → s < 2 ^ w → i < w → bit_and s (2 ^ w - 1 - (1 * 2 ^ i) % 2 ^ w) ≡ without s i
unfolding without
without_code w s i h l = rw one_shifted (minus_code w s (2 ^ i) h (pow-lt l))

pub without_past : (w s i : ℕ) → s < 2 ^ w → w ≤ i → without s i ≡ s
unfolding without
without_past w s i h l = omega (arith, minus_add_meet s (2 ^ i), and_comm s (2 ^ i) ∙ apart)
  where
    apart : bit_and (2 ^ i) s ≡ 0
    apart = rw one-mul at (and_shifted 1 i s (lt_of_lt_of_le h (pow_mono l)))

-- A set of k bits that is worked on in 64: s is the set as a word, n its number, m the width as the code has it. The result is that of
-- the operation on n, and fits in k bits again.
pub with_word : (k m n s i : ℕ) → m ≡ k → s ≡ n → s < 2 ^ k → (0 < k) × (k ≤ 64)
    → (bit_or s ((1 * 2 ^ (i % m)) % 2 ^ 64) < 2 ^ k) × (bit_or s ((1 * 2 ^ (i % m)) % 2 ^ 64) ≡ with n (i % k))
with_word k m n s i p q h b = (subst (λ x. x < 2 ^ k) (sym code) (with_lt k s _ h (mod-lt i b.0)), code ∙ ap (λ x. with x (i % k)) q)
  where
    code : bit_or s ((1 * 2 ^ (i % m)) % 2 ^ 64) ≡ with s (i % k)
    code = rw p (with_code 64 s (i % k) (lt_of_lt_of_le (mod-lt i b.0) b.1))

pub minus_word : (k n r s t : ℕ) → s ≡ n → t ≡ r → s < 2 ^ k → s < 2 ^ 64 → t < 2 ^ 64
    → (bit_and s (2 ^ 64 - 1 - t) < 2 ^ k) × (bit_and s (2 ^ 64 - 1 - t) ≡ minus n r)
minus_word k n r s t p q h l l2 =
    (subst (λ x. x < 2 ^ k) (sym code) (lt_of_le_of_lt (minus_le s t) h), code ∙ ap (λ x. minus x t) p ∙ ap (minus n) q)
  where
    code : bit_and s (2 ^ 64 - 1 - t) ≡ minus s t
    code = minus_code 64 s t l l2

pub without_word : (k n s i : ℕ) → s ≡ n → s < 2 ^ k → s < 2 ^ 64 → i < 64
    → (bit_and s (2 ^ 64 - 1 - (1 * 2 ^ i) % 2 ^ 64) < 2 ^ k) × (bit_and s (2 ^ 64 - 1 - (1 * 2 ^ i) % 2 ^ 64) ≡ without n i)
without_word k n s i p h l b =
    (subst (λ x. x < 2 ^ k) (sym code) (lt_of_le_of_lt (without_le s i) h), code ∙ ap (λ x. without x i) p)
  where
    code : bit_and s (2 ^ 64 - 1 - (1 * 2 ^ i) % 2 ^ 64) ≡ without s i
    code = without_code 64 s i l b
