-- Laws of `keeping`: a set less each number below n at which a test is not met.
--     has_keeping, has_past_keeping        its members below n, and from n on
--     keeping_le                           it is no larger
--     keeping_all                          nothing goes where each member meets the test
--     keeping_is                           a set of n bits with these members is it
--     keeping_cong                         tests that agree below n leave the same
-- Assumes nothing.
use Prim.Native.Nat.{ℕ, zero, suc, ◌^◌, ◌≤◌, ◌<◌}
use Rattle.std.specs.Prelude.{Bool, ◌&&◌, ◌≡◌}
use Rattle.std.proofs.Math.Bool.{true, false, cond, and-true, and-false}
use Rattle.std.proofs.Math.Path.{refl}
use Rattle.std.proofs.Common.{sym, ◌∙◌}
use Rattle.std.proofs.Math.Decide.{dec_lt, ℕ_discrete}
use native.Mathlib.Omega.{arith}
use Rattle.bitset.specs.Sets.{has, without, keeping}
use Rattle.bitset.specs.Sets.Laws.{sets_ext, has_past, has_without_same, has_without_other, without_le}

module _ (p : ℕ → Bool) (s : ℕ) where
  pub has_past_keeping : (n i : ℕ) → n ≤ i → has (keeping n p s) i ≡ has s i
  unfolding keeping
  has_past_keeping zero i h = refl
  has_past_keeping (suc n) i h = go (p n) (has_past_keeping n i (omega arith))
    where
      go : (b : Bool) → has (keeping n p s) i ≡ has s i → has (cond b (keeping n p s) (without (keeping n p s) n)) i ≡ has s i
      go true e = e
      go false e = has_without_other (keeping n p s) n i (λ same. omega arith) ∙ e

  pub has_keeping : (n i : ℕ) → i < n → has (keeping n p s) i ≡ (has s i && p i)
  unfolding keeping
  has_keeping zero i h = absurd (omega arith)
  has_keeping (suc n) i h = go (ℕ_discrete i n) (p n) refl (has_keeping n i)
    where
      go : Dec (i ≡ n) → (b : Bool) → p n ≡ b → (i < n → has (keeping n p s) i ≡ (has s i && p i))
          → has (cond b (keeping n p s) (without (keeping n p s) n)) i ≡ (has s i && p i)
      go (yes e) true m more = rw (e, m, and-true (has s n)) (has_past_keeping n n (omega arith))
      go (yes e) false m more = rw (e, m, and-false (has s n)) (has_without_same (keeping n p s) n)
      go (no e) true m more = more (omega arith)
      go (no e) false m more = has_without_other (keeping n p s) n i e ∙ more (omega arith)

  pub keeping_le : (n : ℕ) → keeping n p s ≤ s
  unfolding keeping
  keeping_le zero = omega arith
  keeping_le (suc n) = go (p n) (keeping_le n)
    where
      go : (b : Bool) → keeping n p s ≤ s → cond b (keeping n p s) (without (keeping n p s) n) ≤ s
      go true h = h
      go false h = omega (arith, without_le (keeping n p s) n)

  pub keeping_all : (n : ℕ) → ((i : ℕ) → i < n → has s i ≡ true → p i ≡ true) → keeping n p s ≡ s
  keeping_all n f = sets_ext (keeping n p s) s (λ i. go i (dec_lt i n))
    where
      both : (a b : Bool) → (a ≡ true → b ≡ true) → (a && b) ≡ a
      both true b h = h refl
      both false b h = refl

      go : (i : ℕ) → Dec (i < n) → has (keeping n p s) i ≡ has s i
      go i (yes l) = has_keeping n i l ∙ both (has s i) (p i) (f i l)
      go i (no l) = has_past_keeping n i (omega arith)

  pub keeping_is : (n a : ℕ) → s < 2 ^ n → a < 2 ^ n → ((i : ℕ) → i < n → has a i ≡ (has s i && p i)) → a ≡ keeping n p s
  keeping_is n a small less f = sets_ext a (keeping n p s) (λ i. go i (dec_lt i n))
    where
      go : (i : ℕ) → Dec (i < n) → has a i ≡ has (keeping n p s) i
      go i (yes l) = f i l ∙ sym (has_keeping n i l)
      go i (no l) = has_past n a i less (omega arith) ∙ sym (has_past n s i small (omega arith)) ∙ sym (has_past_keeping n i (omega arith))

pub keeping_cong : (p q : ℕ → Bool) (s n : ℕ) → ((i : ℕ) → i < n → p i ≡ q i) → keeping n p s ≡ keeping n q s
unfolding keeping
keeping_cong p q s zero f = refl
keeping_cong p q s (suc n) f = rw (keeping_cong p q s n (λ i l. f i (omega arith)), f n (omega arith))
