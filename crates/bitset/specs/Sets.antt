-- Sets of numbers, each written as one number: i is a member where bit i is 1. Every operation is free of the width.
use Rattle.std.specs.Prelude.{ℕ, zero, suc, ◌/◌, ◌%◌, ◌^◌, Bool, cond, eqb}
use Rattle.std.specs.Int.Bits.{bit_and, bit_or, bit_xor}
pub mod Laws
pub mod Shift
pub mod Keeping
pub mod Widths

-- i is a member of s
unfoldable pub has : ℕ → ℕ → Bool
has s i = eqb (s / 2 ^ i % 2) 1

-- the members of either
unfoldable pub join : ℕ → ℕ → ℕ
join s m = bit_or s m

-- the members of s that are none of m
unfoldable pub minus : ℕ → ℕ → ℕ
minus s m = bit_xor s (bit_and s m)

-- each member of b is one of a
unfoldable pub contains : ℕ → ℕ → Bool
contains a b = eqb (bit_and a b) b

-- s and the member i
unfoldable pub with : ℕ → ℕ → ℕ
with s i = join s (2 ^ i)

-- s less the member i
unfoldable pub without : ℕ → ℕ → ℕ
without s i = minus s (2 ^ i)

-- s less each number below n at which the test is not met
unfoldable pub keeping : ℕ → (ℕ → Bool) → ℕ → ℕ
keeping zero p s = s
keeping (suc n) p s = cond (p n) (keeping n p s) (without (keeping n p s) n)

-- the members from k on, counted from k
unfoldable pub from : ℕ → ℕ → ℕ
from k s = s / 2 ^ k
