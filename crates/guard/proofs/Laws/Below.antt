-- What is below a role: the walk of specs/Below, which stops after sixteen ties, is the paper's "to any depth".
--     Below, below_trans              below, with no bound on the number of ties; what is below what is below
--     below_iff                       the walk is that
--     below_more                      with no tie less
--     Meets, meets_iff                a role that meets a test itself, or by one below it
--     meets_more, meets_same          .. with no tie less and no test less; by the same ties and tests
--     meets_alone                     .. where it has no juniors
-- Assumes nothing.
use Prim.Native.Nat.{ℕ, zero, suc, ◌+◌, ◌-◌, ◌≤◌, ◌<◌}
use mathlib.Core.Path.{◌≡◌, refl, sym, ◌∙◌}
use mathlib.Core.Bool.{Bool, true, false, cond, true≢false}
use mathlib.Core.Logic.{◌⊎◌, inl, inr, ⊎_elim, ◌↔◌}
use native.Mathlib.Decide.{dec_le}
use native.Mathlib.Omega.{arith}
use lib.Dec.{leb}
use borrow.Author.Tests.{leb-true, leb-false, le-leb, lt-leb}
use Rattle.bitset.specs.Tests.Laws.{both, either_l, either_r, either_e, every_i, every_at, some_i, some_e}
use Rattle.guard.specs.Below.{below_within, below, or_below}
use Rattle.guard.proofs.Laws.Pigeons.{Meet, pigeons}

-- b is a junior of a, or below one of its juniors; no role in between is past the tables'
pub data Below (junior : ℕ → ℕ → Bool) : ℕ → ℕ → Type 0 where
  direct : {a b : ℕ} → junior a b ≡ true → Below junior a b
  through : {a b : ℕ} (m : ℕ) → m < 16 → junior a m ≡ true → Below junior m b → Below junior a b

-- a in front of the places of f
push : ℕ → (ℕ → ℕ) → ℕ → ℕ
push a f zero = a
push a f (suc i) = f i

-- the places of f without those behind i up to j
cut : (ℕ → ℕ) → ℕ → ℕ → ℕ → ℕ
cut f i j k = cond (leb k i) (f k) (f (k + (j - i)))

module _ (junior : ℕ → ℕ → Bool) where
  pub below_trans : {a b c : ℕ} → b < 16 → Below junior a b → Below junior b c → Below junior a c
  below_trans l (direct h) g = through _ l h g
  below_trans l (through m k h f) g = through m k h (below_trans l f g)

  within_e : (n a b : ℕ) → below_within junior n a b ≡ true → Below junior a b
  unfolding below_within
  within_e zero a b h = absurd (true≢false (sym h))
  within_e (suc n) a b h =
      ⊎_elim direct (λ s. let (m, l, k) = some_e 16 _ s in through m l (every_at _ k 0) (within_e n m b (every_at _ k 1))) (either_e _ _ h)

  -- ---- a chain of ties, by its places: the first is a, the last is b, and each is a junior of the one before
  record Chain (n a b : ℕ) : Type 0 where
    at : ℕ → ℕ
    first : at 0 ≡ a
    last : at n ≡ b
    small : (i : ℕ) → i < n → at i < 16
    tied : (i : ℕ) → i < n → junior (at i) (at (suc i)) ≡ true

  chain_of : {a b : ℕ} → a < 16 → Below junior a b → (n : ℕ) × Chain (suc n) a b
  unfolding push
  chain_of {a} {b} l (direct h) = (0, record { at = push a (λ i. b); first = refl; last = refl; small = one_small; tied = one_tied })
    where
      one_small : (i : ℕ) → i < 1 → push a (λ i. b) i < 16
      one_small zero k = l
      one_small (suc i) k = absurd (past i k)
        where
          past : (i : ℕ) → suc i < 1 → ⊥
          past i k = omega arith

      one_tied : (i : ℕ) → i < 1 → junior (push a (λ i. b) i) b ≡ true
      one_tied zero k = h
      one_tied (suc i) k = absurd (past i k)
        where
          past : (i : ℕ) → suc i < 1 → ⊥
          past i k = omega arith
  chain_of {a} {b} l (through m s h f) =
      let (n, c) = chain_of s f in (suc n, record { at = push a c.at; first = refl; last = c.last; small = more_small n c; tied = more_tied n c })
    where
      more_small : (n : ℕ) (c : Chain (suc n) m b) (i : ℕ) → i < suc (suc n) → push a c.at i < 16
      more_small n c zero k = l
      more_small n c (suc i) k = c.small i (omega arith)

      more_tied : (n : ℕ) (c : Chain (suc n) m b) (i : ℕ) → i < suc (suc n) → junior (push a c.at i) (c.at i) ≡ true
      more_tied n c zero k = rw c.first h
      more_tied n c (suc i) k = c.tied i (omega arith)

  -- of a chain that comes to one place twice, what lies between is left out
  shorter : (n a b : ℕ) (c : Chain n a b) (i j : ℕ) → i < j → j < n → c.at i ≡ c.at j → Chain (n - (j - i)) a b
  unfolding cut
  shorter n a b c i j l k same =
      record {
        at = cut c.at i j;
        first = rw (le-leb 0 i (omega arith)) c.first;
        last = rw (lt-leb (n - (j - i)) i (omega arith), there) c.last;
        small = λ m h. go m h (leb m i) refl;
        tied = λ m h. tie m h (leb m i) refl (leb (suc m) i) refl;
      }
    where
      there : n - (j - i) + (j - i) ≡ n
      there = omega arith

      go : (m : ℕ) → m < n - (j - i) → (p : Bool) → leb m i ≡ p → cut c.at i j m < 16
      go m h true e = rw e (c.small m (omega arith))
      go m h false e = rw e (c.small (m + (j - i)) (omega arith))

      tie : (m : ℕ) → m < n - (j - i) → (p : Bool) → leb m i ≡ p → (q : Bool) → leb (suc m) i ≡ q
          → junior (cut c.at i j m) (cut c.at i j (suc m)) ≡ true
      tie m h true e true f = rw (e, f) (c.tied m (omega arith))
      tie m h true e false f =
          let is : m ≡ i = omega (arith, leb-true m i e, leb-false (suc m) i f) in
          let on : suc m + (j - i) ≡ suc j = omega arith in
          rw (e, f, on, is, same) (c.tied j k)
      tie m h false e true f = absurd (over m i (leb-false _ _ e) (leb-true _ _ f))
        where
          over : (m i : ℕ) → i < m → suc m ≤ i → ⊥
          over m i x y = omega arith
      tie m h false e false f =
          let on : suc m + (j - i) ≡ suc (m + (j - i)) = omega arith in
          rw (e, f, on) (c.tied (m + (j - i)) (omega arith))

  -- so sixteen ties are enough
  short : (fuel n a b : ℕ) → n ≤ fuel + 15 → Chain (suc n) a b → (m : ℕ) × (m ≤ 15) × Chain (suc m) a b
  short zero n a b l c = (n, omega arith, c)
  short (suc fuel) n a b l c = go (dec_le n 15) (short fuel)
    where
      Short : ℕ → Type 0
      Short f = (n a b : ℕ) → n ≤ f + 15 → Chain (suc n) a b → (m : ℕ) × (m ≤ 15) × Chain (suc m) a b

      go : Dec (n ≤ 15) → Short fuel → (m : ℕ) × (m ≤ 15) × Chain (suc m) a b
      go (yes h) less = (n, h, c)
      go (no h) less = again (pigeons 16 c.at (λ k e. c.small k (omega arith)))
        where
          again : Meet c.at 16 → (m : ℕ) × (m ≤ 15) × Chain (suc m) a b
          again (i, j, x, y, same) =
              let left : suc n - (j - i) ≡ suc (n - (j - i)) = omega arith in
              less (n - (j - i)) a b (omega arith) (rw left at (shorter (suc n) a b c i j x (omega arith) same))

  chain_within : (n k a b : ℕ) → n ≤ k → Chain (suc n) a b → below_within junior (suc k) a b ≡ true
  unfolding below_within
  chain_within zero k a b l c = either_l _ _ (rw (c.first, c.last) at (c.tied 0 (omega arith)))
  chain_within (suc n) zero a b l c = absurd (none n l)
    where
      none : (n : ℕ) → suc n ≤ 0 → ⊥
      none n l = omega arith
  chain_within (suc n) (suc k) a b l c =
      either_r _ _ (some_i 16 _ (c.at 1) (c.small 1 (omega arith)) (every_i _ (rw c.first at (c.tied 0 (omega arith)), (chain_within n k (c.at 1) b (omega arith) rest, tt))))
    where
      rest : Chain (suc n) (c.at 1) b
      rest = record { at = λ i. c.at (suc i); first = refl; last = c.last; small = λ i h. c.small (suc i) (omega arith); tied = λ i h. c.tied (suc i) (omega arith) }

  -- "to any depth"
  pub below_e : (a b : ℕ) → below junior a b ≡ true → Below junior a b
  unfolding below
  below_e a b h = within_e _ a b h

  pub below_i : (a b : ℕ) → a < 16 → Below junior a b → below junior a b ≡ true
  unfolding below
  below_i a b l h = let (n, c) = chain_of l h in let (m, k, d) = short n n a b (omega arith) c in chain_within m 15 a b k d

  pub below_iff : (a b : ℕ) → a < 16 → below junior a b ≡ true ↔ Below junior a b
  below_iff a b l = (below_e a b, below_i a b l)

-- with no tie less, no less is below
pub below_more : (old new : ℕ → ℕ → Bool) → ((a b : ℕ) → a < 16 → b < 16 → old a b ≡ true → new a b ≡ true)
    → {a b : ℕ} → a < 16 → b < 16 → Below old a b → Below new a b
below_more old new more {a} {b} l k (direct h) = direct (more a b l k h)
below_more old new more {a} {b} l k (through m s h f) = through m s (more a m l s h) (below_more old new more s k f)

-- ---- a test that a role meets itself, or by one below it
pub data Meets (junior : ℕ → ℕ → Bool) (p : ℕ → Bool) : ℕ → Type 0 where
  itself : {a : ℕ} → p a ≡ true → Meets junior p a
  by : {a : ℕ} (m : ℕ) → m < 16 → junior a m ≡ true → Meets junior p m → Meets junior p a

module _ (junior : ℕ → ℕ → Bool) (p : ℕ → Bool) where
  from_below : {a b : ℕ} → b < 16 → Below junior a b → p b ≡ true → Meets junior p a
  from_below l (direct h) met = by _ l h (itself met)
  from_below l (through m k h f) met = by m k h (from_below l f met)

  pub meets_e : (a : ℕ) → or_below junior p a ≡ true → Meets junior p a
  meets_e a h = ⊎_elim itself (λ s. let (b, l, k) = some_e 16 _ s in from_below l (below_e junior a b (every_at _ k 0)) (every_at _ k 1)) (either_e _ _ h)

  -- the one that meets it
  meeting : (a : ℕ) → Meets junior p a → (p a ≡ true) ⊎ ((b : ℕ) × (b < 16) × Below junior a b × (p b ≡ true))
  meeting a (itself h) = inl h
  meeting a (by m l h f) =
      ⊎_elim (λ met. inr (m, l, direct h, met)) (λ (b, k, g, met). inr (b, k, through m l h g, met)) (meeting m f)

  pub meets_i : (a : ℕ) → a < 16 → Meets junior p a → or_below junior p a ≡ true
  meets_i a l f =
      ⊎_elim (either_l _ _) (λ (b, k, g, met). either_r _ _ (some_i 16 _ b k (every_i _ (below_i junior a b l g, (met, tt))))) (meeting a f)

  pub meets_iff : (a : ℕ) → a < 16 → or_below junior p a ≡ true ↔ Meets junior p a
  meets_iff a l = (meets_e a, meets_i a l)

-- with no tie less, and what met the first test meets the second
pub meets_more : (old new : ℕ → ℕ → Bool) (p q : ℕ → Bool) → ((a b : ℕ) → a < 16 → b < 16 → old a b ≡ true → new a b ≡ true)
    → ((a : ℕ) → a < 16 → p a ≡ true → q a ≡ true) → (a : ℕ) → a < 16 → or_below old p a ≡ true → or_below new q a ≡ true
meets_more old new p q ties tests a l h = meets_i _ _ a l (go a l (meets_e _ _ a h))
  where
    go : (a : ℕ) → a < 16 → Meets old p a → Meets new q a
    go a l (itself h) = itself (tests a l h)
    go a l (by m k h f) = by m k (ties a m l k h) (go m k f)

-- the same ties and the same tests
pub meets_same : (old new : ℕ → ℕ → Bool) (p q : ℕ → Bool) → ((a b : ℕ) → a < 16 → b < 16 → old a b ≡ new a b) → ((a : ℕ) → a < 16 → p a ≡ q a)
    → (a : ℕ) → a < 16 → or_below old p a ≡ or_below new q a
meets_same old new p q ties tests a l =
    both _ _ (meets_more old new p q (λ a b c d e. sym (ties a b c d) ∙ e) (λ a c e. sym (tests a c) ∙ e) a l)
    (meets_more new old q p (λ a b c d e. ties a b c d ∙ e) (λ a c e. tests a c ∙ e) a l)

-- without juniors it meets the test by itself
pub meets_alone : (junior : ℕ → ℕ → Bool) (p : ℕ → Bool) (a : ℕ) → ((m : ℕ) → junior a m ≡ true → ⊥) → or_below junior p a ≡ p a
meets_alone junior p a none = both _ _ (λ h. go (meets_e _ _ a h)) (either_l _ _)
  where
    go : Meets junior p a → p a ≡ true
    go (itself h) = h
    go (by m k tie f) = absurd (none m tie)
