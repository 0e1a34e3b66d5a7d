-- Laws of lists of refusals. The order of the list decides: the laws ask that its numbers are distinct and none is 0.
--     condition_of     the condition that stands at a number
--     distinct        no number is 0, and none stands twice
--     unmet           of a list whose answer is 0, each condition is unmet
--     first_past, first_here      a list in two parts
--     Alike           two lists that differ at most after the first condition met, and then have one answer
--     first_none      the answer is 0 exactly when no condition is met
--     Leads, first_leads          .. and n exactly when n's condition is met and none before it
--     first_met       an answer other than 0 is a number whose condition is met
--     rising_from, first_lowest    of a list whose numbers rise in an order, it is the first such number of the order
-- Assumes nothing.
use Prim.Native.Nat.{ℕ, ◌≤◌, ◌<◌}
use mathlib.Core.Path.{◌≡◌, refl, sym, ap, ◌∙◌}
use mathlib.Core.Bool.{Bool, true, false, cond, true≢false}
use mathlib.Core.List.{List, [], ◌∷◌, ◌++◌}
use mathlib.Core.Logic.{◌⊎◌, inl, inr, ◌↔◌}
use lib.Dec.{eqb, ltb}
use native.Mathlib.Omega.{arith}
use borrow.Author.Tests.{eqb-true, eqb-false, ltb-true, eq-eqb, ne_eqb}
use Rattle.bitset.specs.Tests.Laws.{clash}
use Rattle.guard.specs.Refusals.{Refusal, ◌when◌, first}

-- the condition that stands at number n; a number that does not apply is never met
abbrev pub condition_of : ℕ → List Refusal → Bool
condition_of n [] = false
condition_of n (c ∷ cs) = cond (eqb c.number n) c.met (condition_of n cs)

abbrev among : ℕ → List Refusal → Bool
among n [] = false
among n (c ∷ cs) = cond (eqb c.number n) true (among n cs)

-- no number is 0, and none stands twice
abbrev pub distinct : List Refusal → Bool
distinct [] = true
distinct (c ∷ cs) = cond (eqb c.number 0) false (cond (among c.number cs) false (distinct cs))

distinct_cons : (k : ℕ) (twice rest : Bool) → cond (eqb k 0) false (cond twice false rest) ≡ true → (k ≡ 0 → ⊥) × (twice ≡ false) × (rest ≡ true)
distinct_cons k twice rest h = go (eqb k 0) refl twice h
  where
    go : (b : Bool) → eqb k 0 ≡ b → (a : Bool) → cond b false (cond a false rest) ≡ true → (k ≡ 0 → ⊥) × (a ≡ false) × (rest ≡ true)
    go true e a h = absurd (true≢false (sym h))
    go false e true h = absurd (true≢false (sym h))
    go false e false h = (eqb-false k 0 e, refl, h)

-- ---- answer 0: no condition is met
-- a met condition answers its own number, which is not 0
head_unmet : (k : ℕ) (b : Bool) (cs : List Refusal) → (k ≡ 0 → ⊥) → first (k when b ∷ cs) ≡ 0 → (b ≡ false) × (first cs ≡ 0)
unfolding first
head_unmet k true cs r d = absurd (r d)
head_unmet k false cs r d = (refl, d)

pub unmet : (cs : List Refusal) → distinct cs ≡ true → first cs ≡ 0 → (n : ℕ) → condition_of n cs ≡ false
unmet [] r d n = refl
unmet (c ∷ cs) r d n =
    let (nonzero, once, rest) = distinct_cons c.number (among c.number cs) (distinct cs) r in
    let (off, more) = head_unmet c.number c.met cs nonzero d in
    go (eqb c.number n) off (unmet cs rest more n)
  where
    go : (b : Bool) → c.met ≡ false → condition_of n cs ≡ false → cond b c.met (condition_of n cs) ≡ false
    go true off h = off
    go false off h = h

-- ---- a list in two parts
pub first_past : (cs ds : List Refusal) → distinct cs ≡ true → first cs ≡ 0 → first (cs ++ ds) ≡ first ds
unfolding first
first_past [] ds r d = refl
first_past (c ∷ cs) ds r d =
    let (nonzero, once, rest) = distinct_cons c.number (among c.number cs) (distinct cs) r in
    let (off, more) = head_unmet c.number c.met cs nonzero d in
    rw off (first_past cs ds rest more)

pub first_here : (cs ds : List Refusal) → (first cs ≡ 0 → ⊥) → first (cs ++ ds) ≡ first cs
unfolding first
first_here [] ds h = absurd (h refl)
first_here (c ∷ cs) ds h = go c.met h (first_here cs ds)
  where
    go : (b : Bool) → (cond b c.number (first cs) ≡ 0 → ⊥) → ((first cs ≡ 0 → ⊥) → first (cs ++ ds) ≡ first cs)
        → cond b c.number (first (cs ++ ds)) ≡ cond b c.number (first cs)
    go true h more = refl
    go false h more = more h

-- ---- two lists with one answer
abbrev pub Alike : List Refusal → List Refusal → Type 0
Alike [] [] = Unit {0}
Alike [] (d ∷ ds) = ⊥
Alike (c ∷ cs) [] = ⊥
Alike (c ∷ cs) (d ∷ ds) = (c.number ≡ d.number) × (c.met ≡ d.met) × (c.met ≡ false → d.met ≡ false → Alike cs ds)

pub alike_first : (cs ds : List Refusal) → Alike cs ds → first cs ≡ first ds
unfolding first
alike_first [] [] a = refl
alike_first [] (d ∷ ds) a = absurd a
alike_first (c ∷ cs) [] a = absurd a
alike_first (c ∷ cs) (d ∷ ds) (n, m, rest) = go c.met d.met refl refl m (λ p q. alike_first cs ds (rest p q))
  where
    go : (a b : Bool) → c.met ≡ a → d.met ≡ b → a ≡ b → (c.met ≡ false → d.met ≡ false → first cs ≡ first ds)
        → cond a c.number (first cs) ≡ cond b d.number (first ds)
    go true true p q e h = n
    go false false p q e h = h p q
    go true false p q e h = absurd (true≢false e)
    go false true p q e h = absurd (true≢false (sym e))

-- ---- the first whose condition is met
-- n's condition is met, and none before it
abbrev pub Leads : ℕ → List Refusal → Type 0
Leads n [] = ⊥
Leads n (c ∷ cs) = ((c.number ≡ n) × (c.met ≡ true)) ⊎ ((c.met ≡ false) × Leads n cs)

pub first_leads : (cs : List Refusal) → distinct cs ≡ true → (n : ℕ) → (n ≡ 0 → ⊥) → (first cs ≡ n ↔ Leads n cs)
unfolding first
first_leads [] r n h = (λ e. h (sym e), λ l. absurd l)
first_leads (c ∷ cs) r n h =
    let (nonzero, once, rest) = distinct_cons c.number (among c.number cs) (distinct cs) r in
    go c.met refl (first_leads cs rest n h)
  where
    go : (b : Bool) → c.met ≡ b → (first cs ≡ n ↔ Leads n cs)
        → (cond b c.number (first cs) ≡ n ↔ ((c.number ≡ n) × (c.met ≡ true)) ⊎ ((c.met ≡ false) × Leads n cs))
    go true on more = (λ e. inl (e, on), forth)
      where
        forth : ((c.number ≡ n) × (c.met ≡ true)) ⊎ ((c.met ≡ false) × Leads n cs) → c.number ≡ n
        forth (inl (e, k)) = e
        forth (inr (off, l)) = absurd (clash c.met on off)
    go false off (there, back) = (λ e. inr (off, there e), forth)
      where
        forth : ((c.number ≡ n) × (c.met ≡ true)) ⊎ ((c.met ≡ false) × Leads n cs) → first cs ≡ n
        forth (inl (e, on)) = absurd (clash c.met on off)
        forth (inr (k, l)) = back l

-- a number that is met is among those of the list
met_among : (cs : List Refusal) (n : ℕ) → condition_of n cs ≡ true → among n cs ≡ true
met_among [] n h = h
met_among (c ∷ cs) n h = go (eqb c.number n) h (met_among cs n)
  where
    go : (b : Bool) → cond b c.met (condition_of n cs) ≡ true → (condition_of n cs ≡ true → among n cs ≡ true) → cond b true (among n cs) ≡ true
    go true h more = refl
    go false h more = more h

same_number : (k : ℕ) (b : Bool) (rest : Bool) → cond (eqb k k) b rest ≡ b
same_number k b rest = rw (eq-eqb k k refl)

other_number : (k n : ℕ) (b : Bool) (rest : Bool) → (k ≡ n → ⊥) → cond (eqb k n) b rest ≡ rest
other_number k n b rest h = rw (ne_eqb k n h)

pub first_met : (cs : List Refusal) → distinct cs ≡ true → (first cs ≡ 0 → ⊥) → condition_of (first cs) cs ≡ true
unfolding first
first_met [] r h = absurd (h refl)
first_met (c ∷ cs) r h =
    let (nonzero, once, rest) = distinct_cons c.number (among c.number cs) (distinct cs) r in
    go c.met h (first_met cs rest) once
  where
    go : (b : Bool) → (cond b c.number (first cs) ≡ 0 → ⊥) → ((first cs ≡ 0 → ⊥) → condition_of (first cs) cs ≡ true) → among c.number cs ≡ false
        → cond (eqb c.number (cond b c.number (first cs))) b (condition_of (cond b c.number (first cs)) cs) ≡ true
    go true h more once = same_number c.number true _
    go false h more once =
        other_number c.number (first cs) false _ (λ e. clash (among (first cs) cs) (met_among cs (first cs) (more h)) (rw e at once)) ∙ more h

-- "Answer 0 means done": exactly when no condition is met
pub first_none : (cs : List Refusal) → distinct cs ≡ true → (first cs ≡ 0 ↔ ((n : ℕ) → condition_of n cs ≡ false))
first_none cs r = (unmet cs r, λ none. none_met (eqb (first cs) 0) refl none)
  where
    none_met : (b : Bool) → eqb (first cs) 0 ≡ b → ((n : ℕ) → condition_of n cs ≡ false) → first cs ≡ 0
    none_met true e none = eqb-true (first cs) 0 e
    none_met false e none = absurd (clash (condition_of (first cs) cs) (first_met cs r (eqb-false (first cs) 0 e)) (none (first cs)))

-- ---- a list whose numbers rise in an order: `place` tells where each number stands in it
module _ (place : ℕ → ℕ) where
  -- every number of the list stands past n, and each past the one before it
  abbrev pub rising_from : ℕ → List Refusal → Bool
  rising_from n [] = true
  rising_from n (c ∷ cs) = cond (ltb n (place c.number)) (rising_from (place c.number) cs) false

  rising_cons : (m k : ℕ) (rest : Bool) → cond (ltb m k) rest false ≡ true → (ltb m k ≡ true) × (rest ≡ true)
  rising_cons m k rest h = go (ltb m k) h
    where
      go : (b : Bool) → cond b rest false ≡ true → (b ≡ true) × (rest ≡ true)
      go true h = (refl, h)
      go false h = absurd (true≢false (sym h))

  -- the condition of a rising list that is met stands past m
  condition_past : (cs : List Refusal) (m : ℕ) → rising_from m cs ≡ true → (n : ℕ) → condition_of n cs ≡ true → m < place n
  condition_past [] m r n h = absurd (true≢false (sym h))
  condition_past (c ∷ cs) m r n h =
      let (past, rest) = rising_cons m (place c.number) (rising_from (place c.number) cs) r in
      go (eqb c.number n) refl (ltb-true _ _ past) (λ k. condition_past cs (place c.number) rest n k) h
    where
      go : (b : Bool) → eqb c.number n ≡ b → m < place c.number → (condition_of n cs ≡ true → place c.number < place n)
          → cond b c.met (condition_of n cs) ≡ true → m < place n
      go true e past more h = omega (arith, ap place (eqb-true c.number n e))
      go false e past more h = omega (arith, more h)

  lowest_from : (cs : List Refusal) (m : ℕ) → rising_from m cs ≡ true → (n : ℕ) → condition_of n cs ≡ true → place (first cs) ≤ place n
  unfolding first
  lowest_from [] m r n h = absurd (true≢false (sym h))
  lowest_from (c ∷ cs) m r n h =
      let (past, rest) = rising_cons m (place c.number) (rising_from (place c.number) cs) r in
      go (eqb c.number n) refl c.met (condition_past cs (place c.number) rest n) (lowest_from cs (place c.number) rest n) h
    where
      go : (same : Bool) → eqb c.number n ≡ same → (b : Bool) → (condition_of n cs ≡ true → place c.number < place n)
          → (condition_of n cs ≡ true → place (first cs) ≤ place n) → cond same b (condition_of n cs) ≡ true
          → place (cond b c.number (first cs)) ≤ place n
      go true e true past more h = omega (arith, ap place (eqb-true c.number n e))
      go true e false past more h = absurd (true≢false (sym h))
      go false e true past more h = omega (arith, past h)
      go false e false past more h = more h

  pub first_lowest : (cs : List Refusal) → rising_from 0 cs ≡ true → (n : ℕ) → condition_of n cs ≡ true → place (first cs) ≤ place n
  first_lowest cs r n h = lowest_from cs 0 r n h
