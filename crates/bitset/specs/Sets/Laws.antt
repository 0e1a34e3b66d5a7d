-- Laws of the sets: which members each operation leaves, sizes, and containment.
--     has_meet, has_join, has_minus                             the members of an operation's result
--     has_none, has_one                                         the members of 0 and of a power of two
--     sets_ext                                                  sets with the same members are one number
--     has_with_same, has_with_other, has_with_old, has_with_lem     s and one member
--     has_without_same, has_without_other, has_without          s less one member
--     has_either, has_minus_e                                   a member of s and what is left of s without another set
--     has_past, has_below, has_low                              a set of w bits has members below w; cut to w bits, those that it had
--     join_lt, with_lt, minus_add_meet, minus_le, without_le    sizes
--     join_none, minus_all, minus_zero_l, without_none          against 0
--     contains_has, has_contains, contains_all                  containment by mask is containment of sets
--     contains_refl, contains_trans, contains_antisym, contains_le, contains_zero, contains_in_zero
-- The laws of `from` are in Shift, those of `keeping` in Keeping. Assumes nothing.
use Rattle.std.specs.Prelude.{ℕ, zero, suc, ◌+◌, ◌-◌, ◌/◌, ◌%◌, ◌^◌, ◌≤◌, ◌<◌, Bool, true, false, not, ◌&&◌, ◌||◌, cond, ◌≡◌, refl, ◌⊎◌, eqb}
use Rattle.std.proofs.Math.Bool.{and-true, and-false, or-true, or-false, and-not_self, and_self_left, and-eq-true_iff}
use Rattle.std.proofs.Common.{sym, ap, ◌∙◌, inl, inr, ⊎_elim, div-one, lt_of_lt_of_le, pow-suc, one-add, arith, pow_mono, shr-shr, eqb-true, eq-eqb, ne_eqb}
use Rattle.std.proofs.Math.Decide.{dec_lt, ℕ_discrete}
use Rattle.std.proofs.Math.Nat.{zero-div, div-eq_of_lt, mul-mod_left, mod-lt}
use Rattle.std.proofs.Math.Arith.{half_le}
use Rattle.std.specs.Int.Bits.{bit_and, bit_or, xor_add_and}
use Rattle.std.proofs.lemmas.Nat.{pow_pos, mod-pow-add, div-mul-add, and_shr, or_shr, xor_shr, and_mod, or_mod, xor_mod, or_lt, and_le_l}
use Rattle.std.proofs.Math.Dec.{eqb-zero-suc, eqb-suc-zero, eqb-suc-suc}
use Rattle.std.proofs.Math.Pow.{pow-lt, mod-mod-pow}
use Rattle.bitset.specs.Sets.{has, join, minus, contains, with, without}
use Rattle.bitset.specs.Tests.{all, implies}
use Rattle.bitset.specs.Tests.Laws.{decide, both, clash, all_i, all_e, implies_i, implies_e}

-- ---- the members of an operation's result

-- the digit of a set at i
abbrev bit : Bool → ℕ
bit b = cond b 1 0

has_digit : (s i : ℕ) → has s i ≡ eqb (s / 2 ^ i % 2) 1
unfolding has
has_digit s i = refl

digit : (d : ℕ) → d < 2 → d ≡ bit (eqb d 1)
digit zero h = refl
digit (suc zero) h = refl
digit (suc (suc d)) h = absurd (omega arith)

digit_has : (s i : ℕ) → s / 2 ^ i % 2 ≡ bit (has s i)
digit_has s i = rw has_digit (digit (s / 2 ^ i % 2) (omega arith))

-- an operation that works on each digit apart, by f
module _ (op : ℕ → ℕ → ℕ) (f : Bool → Bool → Bool)
    (shr : (a b k : ℕ) → op a b / 2 ^ k ≡ op (a / 2 ^ k) (b / 2 ^ k))
    (low : (a b k : ℕ) → op a b % 2 ^ k ≡ op (a % 2 ^ k) (b % 2 ^ k))
    (table : (p q : Bool) → eqb (op (bit p) (bit q)) 1 ≡ f p q) where
  has_op : (a b i : ℕ) → has (op a b) i ≡ f (has a i) (has b i)
  has_op a b i =
      has_digit (op a b) i
      ∙ rw (shr a b i, low (a / 2 ^ i) (b / 2 ^ i) 1, digit_has a i, digit_has b i) (table (has a i) (has b i))

pub has_meet : (a b i : ℕ) → has (bit_and a b) i ≡ (has a i && has b i)
has_meet = has_op bit_and ◌&&◌ and_shr and_mod table
  where
    table : (p q : Bool) → eqb (bit_and (bit p) (bit q)) 1 ≡ (p && q)
    table true true = refl
    table true false = refl
    table false q = refl

pub has_join : (a b i : ℕ) → has (join a b) i ≡ (has a i || has b i)
unfolding join
has_join = has_op bit_or ◌||◌ or_shr or_mod table
  where
    table : (p q : Bool) → eqb (bit_or (bit p) (bit q)) 1 ≡ (p || q)
    table true true = refl
    table true false = refl
    table false true = refl
    table false false = refl

pub has_minus : (a b i : ℕ) → has (minus a b) i ≡ (has a i && not (has b i))
unfolding minus
has_minus = has_op minus (λ p q. p && not q) (λ a b k. rw (xor_shr, and_shr)) (λ a b k. rw (xor_mod, and_mod)) table
  where
    table : (p q : Bool) → eqb (minus (bit p) (bit q)) 1 ≡ (p && not q)
    table true true = refl
    table true false = refl
    table false q = refl

-- ---- the members of 0 and of a power of two

pub has_none : (i : ℕ) → has 0 i ≡ false
unfolding has
has_none i = rw zero-div

-- the members but 0, counted from 1
has_suc : (s i : ℕ) → has s (suc i) ≡ has (s / 2) i
unfolding has
has_suc s i = rw (← one-add i, ← shr-shr s 1 i)

pub has_one : (i j : ℕ) → has (2 ^ i) j ≡ eqb j i
unfolding has
has_one zero zero = refl
has_one zero (suc j) = has_suc 1 j ∙ has_none j ∙ sym (eqb-suc-zero j)
has_one (suc i) zero = rw (pow-suc, div-one, mul-mod_left) (sym (eqb-zero-suc i))
has_one (suc i) (suc j) =
    has_suc (2 ^ suc i) j ∙ ap (λ (s : ℕ). has s j) (rw pow-suc (omega arith)) ∙ has_one i j ∙ sym (eqb-suc-suc j i)

-- ---- sets with the same members are one number

pub sets_ext : (a b : ℕ) → ((i : ℕ) → has a i ≡ has b i) → a ≡ b
sets_ext a b f = go (a + b) a b (omega arith) (omega arith) f
  where
    low : (s : ℕ) → s % 2 ≡ bit (has s 0)
    low s = rw div-one at (digit_has s 0)

    go : (n a b : ℕ) → a ≤ n → b ≤ n → ((i : ℕ) → has a i ≡ has b i) → a ≡ b
    go zero a b h k f = omega arith
    go (suc n) a b h k f =
        let high = go n (a / 2) (b / 2) (half_le h) (half_le k) (λ i. sym (has_suc a i) ∙ f (suc i) ∙ has_suc b i) in
        let last : a % 2 ≡ b % 2 = low a ∙ ap bit (f 0) ∙ sym (low b) in
        omega arith

-- ---- s with a member, and without one

has_with_as : (s i j : ℕ) → has (with s i) j ≡ (has s j || eqb j i)
unfolding with
has_with_as s i j = rw (has_join, has_one)

pub has_with_same : (s i : ℕ) → has (with s i) i ≡ true
has_with_same s i = rw (has_with_as, eq-eqb i i refl) (or-true (has s i))

pub has_with_other : (s i j : ℕ) → (j ≡ i → ⊥) → has (with s i) j ≡ has s j
has_with_other s i j h = rw (has_with_as, ne_eqb j i h) (or-false (has s j))

pub has_with_old : (s i j : ℕ) → has s j ≡ true → has (with s i) j ≡ true
has_with_old s i j h = rw (has_with_as, h)

pub has_with_lem : (s i j : ℕ) → has (with s i) j ≡ true → (j ≡ i) ⊎ (has s j ≡ true)
has_with_lem s i j h = go (ℕ_discrete j i)
  where
    go : Dec (j ≡ i) → (j ≡ i) ⊎ (has s j ≡ true)
    go (yes is) = inl is
    go (no ne) = inr (sym (has_with_other s i j ne) ∙ h)

has_without_as : (s i j : ℕ) → has (without s i) j ≡ (has s j && not (eqb j i))
unfolding without
has_without_as s i j = rw (has_minus, has_one)

pub has_without_same : (s i : ℕ) → has (without s i) i ≡ false
has_without_same s i = rw (has_without_as, eq-eqb i i refl) (and-false (has s i))

pub has_without_other : (s i j : ℕ) → (j ≡ i → ⊥) → has (without s i) j ≡ has s j
has_without_other s i j h = rw (has_without_as, ne_eqb j i h) (and-true (has s j))

pub has_without : (s i j : ℕ) → has (without s i) j ≡ true → (has s j ≡ true) × (j ≡ i → ⊥)
has_without s i j h = (sym (has_without_other s i j other) ∙ h, other)
  where
    other : j ≡ i → ⊥
    other e = clash (has (without s i) i) (rw e at h) (has_without_same s i)

-- ---- a member of s is one of m, or of what is left of s without m
pub has_either : (s m j : ℕ) → has s j ≡ true → (has m j ≡ true) ⊎ (has (minus s m) j ≡ true)
has_either s m j h = ⊎_elim inl (λ out. inr (stays out)) (decide (has m j))
  where
    stays : has m j ≡ false → has (minus s m) j ≡ true
    stays out = has_minus s m j ∙ rw (h, out)

pub has_minus_e : (s m j : ℕ) → has (minus s m) j ≡ true → (has s j ≡ true) × (has m j ≡ false)
has_minus_e s m j h = go (has s j) refl (has m j) refl (sym (has_minus s m j) ∙ h)
  where
    go : (a : Bool) → has s j ≡ a → (b : Bool) → has m j ≡ b → (a && not b) ≡ true → (has s j ≡ true) × (has m j ≡ false)
    go true a false b h = (a, b)
    go true a true b h = absurd (clash false h refl)
    go false a b c h = absurd (clash false h refl)

-- ---- sizes

pub has_past : (w s i : ℕ) → s < 2 ^ w → w ≤ i → has s i ≡ false
unfolding has
has_past w s i h l = rw (div-eq_of_lt (lt_of_lt_of_le h (pow_mono l)))

pub has_below : (w s i : ℕ) → s < 2 ^ w → has s i ≡ true → i < w
has_below w s i h e = go (dec_lt i w)
  where
    go : Dec (i < w) → i < w
    go (yes l) = l
    go (no l) = absurd (clash (has s i) e (has_past w s i h (omega arith)))

-- a set cut to w bits keeps its members below w
pub has_low : (w s i : ℕ) → i < w → has (s % 2 ^ w) i ≡ has s i
has_low w s i l = has_digit (s % 2 ^ w) i ∙ ap (λ d. eqb d 1) same ∙ sym (has_digit s i)
  where
    -- how many bits stand above i
    above : ℕ
    above = w - i - 1

    split : w ≡ (above + 1) + i
    split = omega arith

    quotient : s % 2 ^ w / 2 ^ i ≡ s / 2 ^ i % 2 ^ (above + 1)
    quotient =
        ap (λ n. s % 2 ^ n / 2 ^ i) split
        ∙ ap (λ n. n / 2 ^ i) (mod-pow-add s (above + 1) i)
        ∙ div-mul-add (s / 2 ^ i % 2 ^ (above + 1)) (2 ^ i) (s % 2 ^ i) (mod-lt s (pow_pos i))

    same : s % 2 ^ w / 2 ^ i % 2 ≡ s / 2 ^ i % 2
    same = ap (λ n. n % 2) quotient ∙ mod-mod-pow (s / 2 ^ i) above 1

pub join_lt : (w a b : ℕ) → a < 2 ^ w → b < 2 ^ w → join a b < 2 ^ w
unfolding join
join_lt = or_lt

pub with_lt : (w s i : ℕ) → s < 2 ^ w → i < w → with s i < 2 ^ w
unfolding with
with_lt w s i h l = join_lt w s (2 ^ i) h (pow-lt l)

-- what is taken out and what is left make up the whole
pub minus_add_meet : (a b : ℕ) → minus a b + bit_and a b ≡ a
unfolding minus
minus_add_meet a b = omega (arith, rw again at (xor_add_and a (bit_and a b)))
  where
    again : bit_and a (bit_and a b) ≡ bit_and a b
    again = sets_ext _ _ (λ i. simp has_meet (and_self_left (has a i) (has b i)))

pub minus_le : (a b : ℕ) → minus a b ≤ a
minus_le a b = omega (arith, minus_add_meet a b)

pub without_le : (s i : ℕ) → without s i ≤ s
unfolding without
without_le s i = minus_le s (2 ^ i)

-- ---- against 0

pub join_none : (a : ℕ) → join 0 a ≡ a
unfolding join
join_none a = refl

pub minus_all : (a : ℕ) → minus a a ≡ 0
minus_all a = sets_ext (minus a a) 0 (λ i. has_minus a a i ∙ and-not_self (has a i) ∙ sym (has_none i))

pub minus_zero_l : (a : ℕ) → minus 0 a ≡ 0
minus_zero_l a = omega (arith, minus_le 0 a)

pub without_none : (i : ℕ) → without 0 i ≡ 0
without_none i = omega (arith, without_le 0 i)

-- ---- containment

contained : (a b : ℕ) → contains a b ≡ true → bit_and a b ≡ b
unfolding contains
contained a b = eqb-true (bit_and a b) b

pub contains_has : (a b : ℕ) → contains a b ≡ true → (i : ℕ) → has b i ≡ true → has a i ≡ true
contains_has a b h i k = ((and-eq-true_iff (has a i) (has b i)).0 (sym (has_meet a b i) ∙ rw (contained a b h) k)).0

pub has_contains : (a b : ℕ) → ((i : ℕ) → has b i ≡ true → has a i ≡ true) → contains a b ≡ true
unfolding contains
has_contains a b f = eq-eqb _ _ (sets_ext (bit_and a b) b (λ i. has_meet a b i ∙ and_r (has a i) (has b i) (f i)))
  where
    and_r : (p q : Bool) → (q ≡ true → p ≡ true) → (p && q) ≡ q
    and_r p true e = rw (e refl)
    and_r p false e = and-false p

pub contains_all : (w a b : ℕ) → b < 2 ^ w → contains a b ≡ all w (λ i. implies (has b i) (has a i))
contains_all w a b h =
    both _ _ (λ k. all_i w _ (λ i l. implies_i _ _ (contains_has a b k i)))
    (λ k. has_contains a b (λ i e. implies_e _ _ (all_e w _ k i (has_below w b i h e)) e))

pub contains_refl : (a : ℕ) → contains a a ≡ true
contains_refl a = has_contains a a (λ i h. h)

pub contains_trans : (a b c : ℕ) → contains a b ≡ true → contains b c ≡ true → contains a c ≡ true
contains_trans a b c h k = has_contains a c (λ i e. contains_has a b h i (contains_has b c k i e))

pub contains_antisym : (a b : ℕ) → contains a b ≡ true → contains b a ≡ true → a ≡ b
contains_antisym a b h k = sets_ext a b (λ i. both _ _ (contains_has b a k i) (contains_has a b h i))

pub contains_le : (a b : ℕ) → contains a b ≡ true → b ≤ a
contains_le a b h = rw (contained a b h) at (and_le_l a b)

pub contains_zero : (a : ℕ) → contains a 0 ≡ true
contains_zero a = has_contains a 0 (λ i h. absurd (clash (has 0 i) h (has_none i)))

pub contains_in_zero : (b : ℕ) → contains 0 b ≡ true → b ≡ 0
contains_in_zero b h = omega (arith, contains_le 0 b h)
