-- Laws of the tests.
--     decide, clash, is_false, both                             a test is true or false, never both; two tests that imply each other are one
--     not_of_true, not_of_false, of_not_true, of_not_false      a negated test
--     Each, every_i, every_e, every_at                          a list of tests, by index, and against the list of the facts
--     implies_i, implies_e                                      one test implies another
--     or_l, or_r, or-true, or-false                             one test or another
--     either_l, either_r, either_e, either_none, either_no_l, either_no_r
--     none_below                                                no number is below 0
--     all_none, all_more, all_i, all_e, all_cong                a test met below n
--     some_none, some_more, some_i, some_e, some_no_i, some_no_e, some_cong
-- Assumes nothing.
use Rattle.std.specs.Prelude.{ℕ, zero, suc, ◌+◌, ◌<◌, Bool, true, false, not, ◌&&◌, ◌||◌, List, [], ◌∷◌, ◌⊎◌, ◌≡◌, refl, get_or}
use Rattle.std.proofs.Common.{true≢false, inl, inr, ⊎_elim, sym, ◌∙◌, add-one, arith}
use Rattle.std.proofs.Math.Bool.{and-eq-true_iff}
use Rattle.std.proofs.Math.Decide.{dec_lt}
use Rattle.bitset.specs.Tests.{every, either, implies, all, some}

pub decide : (a : Bool) → (a ≡ true) ⊎ (a ≡ false)
decide true = inl refl
decide false = inr refl

pub clash : (a : Bool) → a ≡ true → a ≡ false → ⊥
clash a h k = true≢false (sym h ∙ k)

pub is_false : (a : Bool) → (a ≡ true → ⊥) → a ≡ false
is_false true f = absurd (f refl)
is_false false f = refl

pub both : (a b : Bool) → (a ≡ true → b ≡ true) → (b ≡ true → a ≡ true) → a ≡ b
both true b f g = sym (f refl)
both false b f g = sym (is_false b (λ h. clash false (g h) refl))

pub not_of_true : (a : Bool) → a ≡ true → not a ≡ false
not_of_true a h = rw h

pub not_of_false : (a : Bool) → a ≡ false → not a ≡ true
not_of_false a h = rw h

pub of_not_true : (a : Bool) → not a ≡ true → a ≡ false
of_not_true true h = sym h
of_not_true false h = refl

pub of_not_false : (a : Bool) → not a ≡ false → a ≡ true
of_not_false true h = refl
of_not_false false h = sym h

-- ---- every

-- a fact for each test
abbrev pub Each : List Bool → Type 0
Each [] = Unit {0}
Each (b ∷ bs) = (b ≡ true) × Each bs

pub every_i : (l : List Bool) → Each l → every l ≡ true
unfolding every
every_i [] f = refl
every_i (b ∷ bs) f = (and-eq-true_iff b (every bs)).1 (f.0, every_i bs f.1)

pub every_e : (l : List Bool) → every l ≡ true → Each l
unfolding every
every_e [] h = tt
every_e (b ∷ bs) h = let (p, q) = (and-eq-true_iff b (every bs)).0 h in (p, every_e bs q)

each_at : (l : List Bool) → Each l → (i : ℕ) → get_or l i true ≡ true
each_at [] f i = refl
each_at (b ∷ bs) f zero = f.0
each_at (b ∷ bs) f (suc i) = each_at bs f.1 i

pub every_at : (l : List Bool) → every l ≡ true → (i : ℕ) → get_or l i true ≡ true
every_at l h = each_at l (every_e l h)

-- ---- implies and either

pub implies_i : (a b : Bool) → (a ≡ true → b ≡ true) → implies a b ≡ true
unfolding implies
implies_i true b f = f refl
implies_i false b f = refl

pub implies_e : (a b : Bool) → implies a b ≡ true → a ≡ true → b ≡ true
unfolding implies
implies_e true b h k = h
implies_e false b h k = absurd (clash false k refl)

pub or_l : (a b : Bool) → a ≡ true → (a || b) ≡ true
or_l a b h = rw h

pub or_r : (a b : Bool) → b ≡ true → (a || b) ≡ true
or_r true b h = refl
or_r false b h = h

pub or-true : (a : Bool) → (a || true) ≡ true
or-true a = or_r a true refl

pub or-false : (a : Bool) → (a || false) ≡ a
or-false true = refl
or-false false = refl

pub or_e : (a b : Bool) → (a || b) ≡ true → (a ≡ true) ⊎ (b ≡ true)
or_e true b h = inl refl
or_e false b h = inr h

pub either_l : (a b : Bool) → a ≡ true → either a b ≡ true
unfolding either
either_l = or_l

pub either_r : (a b : Bool) → b ≡ true → either a b ≡ true
unfolding either
either_r = or_r

pub either_e : (a b : Bool) → either a b ≡ true → (a ≡ true) ⊎ (b ≡ true)
unfolding either
either_e = or_e

pub either_none : (a b : Bool) → a ≡ false → b ≡ false → either a b ≡ false
unfolding either
either_none a b h k = rw h k

pub either_no_l : (a b : Bool) → either a b ≡ false → a ≡ false
either_no_l a b h = is_false a (λ k. clash (either a b) (either_l a b k) h)

pub either_no_r : (a b : Bool) → either a b ≡ false → b ≡ false
either_no_r a b h = is_false b (λ k. clash (either a b) (either_r a b k) h)

-- ---- all and some

-- a number below suc n is below n, or n
below : (n k : ℕ) → k < suc n → (k < n) ⊎ (k ≡ n)
below n k h = go (dec_lt k n)
  where
    go : Dec (k < n) → (k < n) ⊎ (k ≡ n)
    go (yes l) = inl l
    go (no l) = inr (omega arith)

pub none_below : (k : ℕ) → k < 0 → ⊥
none_below k h = omega arith

pub all_none : (p : ℕ → Bool) → all 0 p ≡ true
unfolding all
all_none p = refl

pub all_more : (n : ℕ) (p : ℕ → Bool) → all (n + 1) p ≡ (all n p && p n)
unfolding all
all_more n p = rw add-one

pub all_i : (n : ℕ) (p : ℕ → Bool) → ((k : ℕ) → k < n → p k ≡ true) → all n p ≡ true
unfolding all
all_i zero p f = refl
all_i (suc n) p f = (and-eq-true_iff (all n p) (p n)).1 (all_i n p (λ k l. f k (omega arith)), f n (omega arith))

pub all_e : (n : ℕ) (p : ℕ → Bool) → all n p ≡ true → (k : ℕ) → k < n → p k ≡ true
unfolding all
all_e zero p h k l = absurd (none_below k l)
all_e (suc n) p h k l = let (u, v) = (and-eq-true_iff (all n p) (p n)).0 h in ⊎_elim (all_e n p u k) (λ e. rw e v) (below n k l)

pub all_cong : (n : ℕ) (p q : ℕ → Bool) → ((k : ℕ) → k < n → p k ≡ q k) → all n p ≡ all n q
all_cong n p q f =
    both (all n p) (all n q) (λ h. all_i n q (λ k l. sym (f k l) ∙ all_e n p h k l))
    (λ h. all_i n p (λ k l. f k l ∙ all_e n q h k l))

pub some_none : (p : ℕ → Bool) → some 0 p ≡ false
unfolding some
some_none p = refl

pub some_more : (n : ℕ) (p : ℕ → Bool) → some (n + 1) p ≡ (some n p || p n)
unfolding some
some_more n p = rw add-one

pub some_i : (n : ℕ) (p : ℕ → Bool) (k : ℕ) → k < n → p k ≡ true → some n p ≡ true
unfolding some
some_i zero p k l h = absurd (none_below k l)
some_i (suc n) p k l h = ⊎_elim (λ m. rw (some_i n p k m h)) (λ e. or_r (some n p) (p n) (rw e at h)) (below n k l)

pub some_e : (n : ℕ) (p : ℕ → Bool) → some n p ≡ true → (k : ℕ) × (k < n) × (p k ≡ true)
unfolding some
some_e zero p h = absurd (clash false h refl)
some_e (suc n) p h =
    ⊎_elim (λ m. let (k, l, e) = some_e n p m in (k, omega arith, e)) (λ e. (n, omega arith, e)) (or_e (some n p) (p n) h)

pub some_no_i : (n : ℕ) (p : ℕ → Bool) → ((k : ℕ) → k < n → p k ≡ false) → some n p ≡ false
some_no_i n p f = is_false (some n p) (λ h. let (k, l, e) = some_e n p h in clash (p k) e (f k l))

pub some_no_e : (n : ℕ) (p : ℕ → Bool) → some n p ≡ false → (k : ℕ) → k < n → p k ≡ false
some_no_e n p h k l = is_false (p k) (λ e. clash (some n p) (some_i n p k l e) h)

pub some_cong : (n : ℕ) (p q : ℕ → Bool) → ((k : ℕ) → k < n → p k ≡ q k) → some n p ≡ some n q
some_cong n p q f =
    both (some n p) (some n q) (λ h. let (k, l, e) = some_e n p h in some_i n q k l (sym (f k l) ∙ e))
    (λ h. let (k, l, e) = some_e n q h in some_i n p k l (f k l ∙ e))
