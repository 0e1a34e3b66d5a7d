-- Laws of `from`, the members from k on: division by a power of two passes through each operation.
--     has_from, from_ext, from_has                              its members are the set's from k on, and these decide it
--     from_zero, join_from, minus_from, contains_from           through the operations
--     one_below, one_above                                      a power of two
--     with_below, with_above, without_below, without_above      a member below k is not seen, one from k on moves down by k
-- Assumes nothing.
use Rattle.std.specs.Prelude.{ℕ, ◌+◌, ◌-◌, ◌/◌, ◌^◌, ◌≤◌, ◌<◌, true, ◌≡◌}
use Rattle.std.proofs.Common.{sym, ap, ◌∙◌, sub-add_cancel, add-sub_of_le, arith, pow-add, shr-shr}
use Rattle.std.proofs.Math.Nat.{zero-div, div-eq_of_lt}
use Rattle.std.proofs.lemmas.Nat.{and_shr, or_shr, xor_shr, shl-shr}
use Rattle.std.specs.Int.Bits.{or_zero_r, xor_zero_r, and_zero_r}
use Rattle.std.proofs.Math.Pow.{pow-lt}
use Rattle.bitset.specs.Sets.{has, join, minus, contains, with, without, from}
use Rattle.bitset.specs.Sets.Laws.{sets_ext, contains_has, has_contains}

pub has_from : (k s i : ℕ) → has (from k s) i ≡ has s (k + i)
unfolding has from
has_from k s i = rw shr-shr

pub from_ext : (k a b : ℕ) → ((i : ℕ) → k ≤ i → has a i ≡ has b i) → from k a ≡ from k b
from_ext k a b f = sets_ext (from k a) (from k b) (λ i. simp has_from (f (k + i) (omega arith)))

pub from_has : (k a b : ℕ) → from k a ≡ from k b → (i : ℕ) → k ≤ i → has a i ≡ has b i
from_has k a b e i h = rw add-sub_of_le at at_i
  where
    at_i : has a (k + (i - k)) ≡ has b (k + (i - k))
    at_i = simp has_from at (ap (λ (s : ℕ). has s (i - k)) e)

pub from_zero : (k : ℕ) → from k 0 ≡ 0
unfolding from
from_zero k = zero-div (2 ^ k)

pub join_from : (k a b : ℕ) → from k (join a b) ≡ join (from k a) (from k b)
unfolding join from
join_from k a b = or_shr a b k

pub minus_from : (k a b : ℕ) → from k (minus a b) ≡ minus (from k a) (from k b)
unfolding minus from
minus_from k a b = rw (xor_shr, and_shr)

pub contains_from : (k a b : ℕ) → contains a b ≡ true → contains (from k a) (from k b) ≡ true
contains_from k a b h = has_contains _ _ (λ i. simp has_from (contains_has a b h (k + i)))

pub one_below : (k i : ℕ) → i < k → from k (2 ^ i) ≡ 0
unfolding from
one_below k i h = div-eq_of_lt (pow-lt h)

pub one_above : (k i : ℕ) → k ≤ i → from k (2 ^ i) ≡ 2 ^ (i - k)
unfolding from
one_above k i h = ap (λ (n : ℕ). 2 ^ n / 2 ^ k) (sym (sub-add_cancel h)) ∙ rw pow-add (shl-shr (2 ^ (i - k)) k)

pub with_below : (k s i : ℕ) → i < k → from k (with s i) ≡ from k s
unfolding with join
with_below k s i h = rw (join_from, one_below) (or_zero_r (from k s))

pub with_above : (k s i : ℕ) → k ≤ i → from k (with s i) ≡ with (from k s) (i - k)
unfolding with
with_above k s i h = rw (join_from, one_above)

pub without_below : (k s i : ℕ) → i < k → from k (without s i) ≡ from k s
unfolding without minus
without_below k s i h = rw (minus_from, one_below, and_zero_r) (xor_zero_r (from k s))

pub without_above : (k s i : ℕ) → k ≤ i → from k (without s i) ≡ without (from k s) (i - k)
unfolding without
without_above k s i h = rw (minus_from, one_above)
