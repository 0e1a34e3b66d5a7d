-- The members of a set as a list, lowest first.
--     listed_none, listed_next      no members; the lowest, and those of the set without it
--     listed_small                  each is below 64
--     listed_in                     each is a member
--     all_listed                    a test of each, as `members` has it
--     found_in, found_none          the first at which a test is met, and that it is met at none
-- Assumes nothing.
use Prim.Native.Nat.{ℕ, zero, suc, ◌+◌, ◌^◌, ◌≤◌, ◌<◌}
use mathlib.Core.Bool.{Bool, true, false, cond, true≢false}
use mathlib.Core.List.{List, [], ◌∷◌}
use mathlib.Core.Path.{◌≡◌, refl, sym, ap, ◌∙◌}
use native.Mathlib.Decide.{ℕ_discrete}
use native.Mathlib.Omega.{arith}
use lib.Count.{count_trailing_zeros}
use lib.ListN.{length, get_or}
use Rattle.std.specs.Prelude.{Option, Some, None, is_some}
use Rattle.std.specs.List.{filter, find, list_all, range_with_len}
use Rattle.bitset.specs.Tests.{every, implies}
use Rattle.bitset.specs.Sets.{has, without}
use Rattle.bitset.specs.Sets.Laws.{has_none, has_without_same, has_without_other}
use Rattle.guard.specs.Private.Tested.{members, listed}
use Rattle.guard.proofs.Soundness.Loops.{all_of_range}
use Rattle.guard.proofs.Soundness.Members.{lowest, none_lower}

none_of : (p : ℕ → Bool) (n a : ℕ) → ((k : ℕ) → p k ≡ false) → filter p (range_with_len a n) ≡ []
none_of p zero a h = refl
none_of p (suc n) a h = rw (h a) (none_of p n (a + 1) h)

same_of : (p q : ℕ → Bool) (n a : ℕ) → ((k : ℕ) → a ≤ k → p k ≡ q k) → filter p (range_with_len a n) ≡ filter q (range_with_len a n)
same_of p q zero a h = refl
same_of p q (suc n) a h =
    rw (h a (omega arith)) (ap (λ (l : List ℕ). cond (q a) (a ∷ l) l) (same_of p q n (a + 1) (λ k l. h k (omega arith))))

-- the first that p tells, and the others, which q tells
first_of : (p q : ℕ → Bool) (i : ℕ) → p i ≡ true → q i ≡ false → ((k : ℕ) → k < i → p k ≡ false) → ((k : ℕ) → (k ≡ i → ⊥) → q k ≡ p k)
    → (n a : ℕ) → a ≤ i → i < a + n → filter p (range_with_len a n) ≡ i ∷ filter q (range_with_len a n)
first_of p q i here gone before others zero a l h = absurd (omega arith)
first_of p q i here gone before others (suc n) a l h = go (ℕ_discrete a i) (first_of p q i here gone before others n (a + 1))
  where
    go : Dec (a ≡ i) → (a + 1 ≤ i → i < a + 1 + n → filter p (range_with_len (a + 1) n) ≡ i ∷ filter q (range_with_len (a + 1) n))
        → filter p (range_with_len a (suc n)) ≡ i ∷ filter q (range_with_len a (suc n))
    go (yes e) more =
        rw (e, here, gone) (ap (λ (k : List ℕ). i ∷ k) (same_of p q n (i + 1) (λ k b. sym (others k (λ same. omega arith)))))
    go (no e) more =
        let early : p a ≡ false = before a (omega (arith, e)) in
        rw (early, others a e ∙ early) (more (omega (arith, e)) (omega arith))

pub listed_none : (s : ℕ) → s ≡ 0 → listed s ≡ []
unfolding listed
listed_none s e = rw e (none_of (has 0) 64 0 has_none)

pub listed_next : (s : ℕ) → 0 < s → s < 2 ^ 64 → listed s ≡ count_trailing_zeros 64 s ∷ listed (without s (count_trailing_zeros 64 s))
unfolding listed
listed_next s h l =
    let i = count_trailing_zeros 64 s in
    let (small, is) = lowest 64 s h l in
    first_of (has s) (has (without s i)) i is (has_without_same s i) (λ k b. none_lower 64 s k b) (λ k d. has_without_other s i k d) 64 0 (omega arith) (omega (arith, small))

below_of : (p : ℕ → Bool) (n a k d : ℕ) → k < length (filter p (range_with_len a n)) → get_or (filter p (range_with_len a n)) k d < a + n
below_of p zero a k d h = absurd (omega arith)
below_of p (suc n) a k d h = go (p a) refl k h (below_of p n (a + 1))
  where
    go : (b : Bool) → p a ≡ b → (k : ℕ) → k < length (filter p (range_with_len a (suc n)))
        → ((k d : ℕ) → k < length (filter p (range_with_len (a + 1) n)) → get_or (filter p (range_with_len (a + 1) n)) k d < a + 1 + n)
        → get_or (filter p (range_with_len a (suc n))) k d < a + suc n
    go true e zero h more = rw e (omega arith)
    go true e (suc k) h more = rw e (omega (arith, more k d (omega (arith, rw e at h))))
    go false e k h more = rw e (omega (arith, more k d (rw e at h)))

pub listed_small : (s k d : ℕ) → k < length (listed s) → get_or (listed s) k d < 64
unfolding listed
listed_small s k d h = below_of (has s) 64 0 k d h

in_of : (p : ℕ → Bool) (n a k d : ℕ) → k < length (filter p (range_with_len a n)) → p (get_or (filter p (range_with_len a n)) k d) ≡ true
in_of p zero a k d h = absurd (omega arith)
in_of p (suc n) a k d h = go (p a) refl k h (in_of p n (a + 1))
  where
    go : (b : Bool) → p a ≡ b → (k : ℕ) → k < length (filter p (range_with_len a (suc n)))
        → ((k d : ℕ) → k < length (filter p (range_with_len (a + 1) n)) → p (get_or (filter p (range_with_len (a + 1) n)) k d) ≡ true)
        → p (get_or (filter p (range_with_len a (suc n))) k d) ≡ true
    go true e zero h more = rw e e
    go true e (suc k) h more = rw e (more k d (omega (arith, rw e at h)))
    go false e k h more = rw e (more k d (rw e at h))

pub listed_in : (s k d : ℕ) → k < length (listed s) → has s (get_or (listed s) k d) ≡ true
unfolding listed
listed_in s k d h = in_of (has s) 64 0 k d h

filtered : (p q : ℕ → Bool) (l : List ℕ) → list_all p (filter q l) ≡ list_all (λ k. implies (q k) (p k)) l
unfolding implies
filtered p q [] = refl
filtered p q (x ∷ l) = go (q x) refl (filtered p q l)
  where
    go : (b : Bool) → q x ≡ b → list_all p (filter q l) ≡ list_all (λ k. implies (q k) (p k)) l
        → list_all p (filter q (x ∷ l)) ≡ list_all (λ k. implies (q k) (p k)) (x ∷ l)
    go true e h = rw (e, h)
    go false e h = rw (e, h)

pub all_listed : (p : ℕ → Bool) (s : ℕ) → list_all p (listed s) ≡ members p s
unfolding listed
all_listed p s = filtered p (has s) (range_with_len 0 64) ∙ all_of_range 64 (λ e. implies (has s e) (p e))

-- r is a member at which the test is met, and from a on none below it is
pub record FirstMet (p q : ℕ → Bool) (a r : ℕ) : Type 0 where
  pub is : p r ≡ true
  pub met : q r ≡ true
  pub above : a ≤ r
  pub none : (k : ℕ) → a ≤ k → k < r → every (p k ∷ q k ∷ []) ≡ false

later : (p q : ℕ → Bool) (a r : ℕ) → every (p a ∷ q a ∷ []) ≡ false → FirstMet p q (a + 1) r → FirstMet p q a r
later p q a r fails f = record { is = f.is; met = f.met; above = omega (arith, f.above); none = λ k l m. go k l m (ℕ_discrete k a) }
  where
    go : (k : ℕ) → a ≤ k → k < r → Dec (k ≡ a) → every (p k ∷ q k ∷ []) ≡ false
    go k l m (yes e) = rw e fails
    go k l m (no e) = f.none k (omega (arith, e)) m

found_of : (p q : ℕ → Bool) (n a r : ℕ) → find q (filter p (range_with_len a n)) ≡ Some r → FirstMet p q a r
unfolding every
found_of p q zero a r h = absurd (true≢false (ap is_some (sym h)))
found_of p q (suc n) a r h = go (p a) refl (q a) refl h (found_of p q n (a + 1) r)
  where
    go : (b : Bool) → p a ≡ b → (c : Bool) → q a ≡ c → find q (cond b (a ∷ filter p (range_with_len (a + 1) n)) (filter p (range_with_len (a + 1) n))) ≡ Some r
        → (find q (filter p (range_with_len (a + 1) n)) ≡ Some r → FirstMet p q (a + 1) r) → FirstMet p q a r
    go false e c f h more = later p q a r (rw e refl) (more h)
    go true e false f h more = later p q a r (rw (e, f) refl) (more (rw f at h))
    go true e true f h more =
        let same : a ≡ r = ap (λ (o : Option ℕ). elim o [ None ↦ a | Some z ↦ z ]) (rw f at h) in
        record { is = rw (← same) e; met = rw (← same) f; above = omega (arith, same); none = λ k l m. absurd (omega (arith, same)) }

none_found : (p q : ℕ → Bool) (n a : ℕ) → find q (filter p (range_with_len a n)) ≡ None → (k : ℕ) → a ≤ k → k < a + n → every (p k ∷ q k ∷ []) ≡ false
unfolding every
none_found p q zero a h k l m = absurd (omega arith)
none_found p q (suc n) a h k l m = go (p a) refl (q a) refl h (none_found p q n (a + 1)) (ℕ_discrete k a)
  where
    go : (b : Bool) → p a ≡ b → (c : Bool) → q a ≡ c → find q (cond b (a ∷ filter p (range_with_len (a + 1) n)) (filter p (range_with_len (a + 1) n))) ≡ None
        → (find q (filter p (range_with_len (a + 1) n)) ≡ None → (k : ℕ) → a + 1 ≤ k → k < a + 1 + n → every (p k ∷ q k ∷ []) ≡ false)
        → Dec (k ≡ a) → every (p k ∷ q k ∷ []) ≡ false
    go false e c f h more (yes s) = rw (s, e) refl
    go false e c f h more (no s) = more h k (omega (arith, s)) (omega arith)
    go true e false f h more (yes s) = rw (s, e, f) refl
    go true e false f h more (no s) = more (rw f at h) k (omega (arith, s)) (omega arith)
    go true e true f h more d = absurd (true≢false (ap is_some (rw f at h)))

pub found_in : (q : ℕ → Bool) (s r : ℕ) → find q (listed s) ≡ Some r → FirstMet (has s) q 0 r
unfolding listed
found_in q s r h = found_of (has s) q 64 0 r h

pub found_none : (q : ℕ → Bool) (s : ℕ) → find q (listed s) ≡ None → (k : ℕ) → k < 64 → every (has s k ∷ q k ∷ []) ≡ false
unfolding listed
found_none q s h k l = none_found (has s) q 64 0 h k (omega arith) (omega arith)
