-- The first value of a line, and where it ends.
--     leading_place                                    where it ends
--     span_space, span_line, span_more, span_end       the loop that looks for its end
--     before_drop, before_rest                         what stands before a byte, from some byte on
--     before_again, before_part, before_all            what holds no such byte
--     lead_most, lead_take, lead_more, lead_last       the first value of a line; whether a space stands behind it
--     rest_before, rest_within, lead_within, lead_part in a slice from some byte on
--     clean, lead_clean, lead_one, lead_end, lead_two  the first value, by the bytes at the front
--     drop_two, drop_three                             the bytes at the front
-- Assumes nothing.
use Prim.Native.Nat.{ℕ, zero, suc, ◌+◌, ◌-◌, ◌≤◌, ◌<◌}
use mathlib.Core.Path.{◌≡◌, refl, ap, sym, ◌∙◌}
use mathlib.Core.Bool.{Bool, true, false, not, cond, ◌&&◌, ◌||◌}
use mathlib.Core.List.{List, [], ◌∷◌, ◌++◌}
use native.Mathlib.Numerals.{add-one}
use native.Mathlib.Nat.{add-zero}
use native.Mathlib.Omega.{arith}
use lib.Dec.{eqb}
use lib.ListN.{length, get_or, take, drop, length-drop, drop_of_length-le}
use lib.Seq.{drop-cons, length-take-le, take_all}
use borrow.Author.Tests.{eqb-true, ne_eqb}
use Rattle.bitset.specs.Tests.Laws.{or-true, or-false}
use Rattle.script.specs.Private.Slices.{before, leading}
use Rattle.script.proofs.ValuesInTurn.{before_take, before_most, to_end}

-- ---- the first value ends at the first space or byte 10
pub leading_place : (x : ℕ) (xs : List ℕ) → length (leading (x ∷ xs)) ≡ cond (eqb x 32 || eqb x 10) 0 (1 + length (leading xs))
unfolding before
leading_place x xs = go (eqb x 10)
  where
    go : (a : Bool) → length (before 32 (cond a [] (x ∷ before 10 xs))) ≡ cond (eqb x 32 || a) 0 (1 + length (leading xs))
    go true = rw (or-true (eqb x 32))
    go false = rw (or-false (eqb x 32)) (last (eqb x 32))
      where
        last : (t : Bool) → length (cond t [] (x ∷ before 32 (before 10 xs))) ≡ cond t 0 (1 + length (leading xs))
        last true = refl
        last false = omega arith

-- ---- byte by byte, where the first i hold no space and no byte 10
module _ (s : List ℕ) (i : ℕ) (h : length (leading s) ≡ i + length (leading (drop i s))) where
  pub span_space : i < length s → get_or s i 0 ≡ 32 → i ≡ length (leading s)
  unfolding before
  span_space l e = sym (h ∙ (rw (drop-cons s i 0 l, e, add-zero)))

  pub span_line : i < length s → get_or s i 0 ≡ 10 → i ≡ length (leading s)
  unfolding before
  span_line l e = sym (h ∙ (rw (drop-cons s i 0 l, e, add-zero)))

  pub span_more : i < length s → (get_or s i 0 ≡ 32 → ⊥) → (get_or s i 0 ≡ 10 → ⊥) → length (leading s) ≡ (i + 1) + length (leading (drop (i + 1) s))
  unfolding before
  span_more l e f = h ∙ (rw (drop-cons s i 0 l, ne_eqb (get_or s i 0) 10 f, ne_eqb (get_or s i 0) 32 e, add-one) (omega arith))

  pub span_end : length s ≤ i → i ≡ length (leading s)
  unfolding before
  span_end l = sym (h ∙ (rw (drop_of_length-le s l, add-zero)))

-- ---- what stands before a byte, from byte n on
pub before_drop : (d n : ℕ) (s : List ℕ) → n ≤ length (before d s) → drop n (before d s) ≡ before d (drop n s)
unfolding before
before_drop d zero s h = refl
before_drop d (suc n) [] h = refl
before_drop d (suc n) (b ∷ s) h = go (eqb b d) (before_drop d n s) h
  where
    none : suc n ≤ 0 → ⊥
    none k = omega arith

    go : (t : Bool) → (n ≤ length (before d s) → drop n (before d s) ≡ before d (drop n s)) → suc n ≤ length (cond t [] (b ∷ before d s))
        → drop (suc n) (cond t [] (b ∷ before d s)) ≡ before d (drop n s)
    go true f k = absurd (none k)
    go false f k = f (omega arith)

pub before_again : (d : ℕ) (s : List ℕ) → before d (before d s) ≡ before d s
unfolding before
before_again d [] = refl
before_again d (b ∷ s) = go (eqb b d) refl (before_again d s)
  where
    go : (t : Bool) → eqb b d ≡ t → before d (before d s) ≡ before d s → before d (cond t [] (b ∷ before d s)) ≡ cond t [] (b ∷ before d s)
    go true e h = refl
    go false e h = rw e (ap (λ (l : List ℕ). b ∷ l) h)

pub before_part : (d : ℕ) (s : List ℕ) {e : ℕ} → e ≡ length (before d s) → before d (take e s) ≡ take e s
before_part d s h = rw (h, before_take d s) (before_again d s)

pub before_all : (d : ℕ) (s : List ℕ) {e : ℕ} → e ≡ length (before d s) → length s ≤ e → before d s ≡ s
before_all d s h l = sym (before_take d s) ∙ take_all (length (before d s)) s (omega (arith, h))

pub before_rest : (d n : ℕ) (s : List ℕ) → n ≤ length (before d s) → n + length (before d (drop n s)) ≡ length (before d s)
before_rest d n s h = omega (arith, ap length (before_drop d n s h), length-drop n (before d s))

-- ---- the first value of a line
pub lead_most : (t : List ℕ) → length (leading t) ≤ length (before 10 t)
lead_most t = before_most 32 (before 10 t)

pub lead_take : (t : List ℕ) → take (length (leading t)) t ≡ leading t
unfolding before
lead_take [] = refl
lead_take (b ∷ t) = go (eqb b 10) (eqb b 32) refl (lead_take t)
  where
    go : (x y : Bool) → eqb b 32 ≡ y → take (length (leading t)) t ≡ leading t
        → take (length (before 32 (cond x [] (b ∷ before 10 t)))) (b ∷ t) ≡ before 32 (cond x [] (b ∷ before 10 t))
    go true y e h = refl
    go false true e h = rw e
    go false false e h = rw e (ap (λ (l : List ℕ). b ∷ l) h)

pub lead_more : (t : List ℕ) → get_or t (length (leading t)) 0 ≡ 32 → length (leading t) < length (before 10 t)
unfolding before
lead_more [] h = absurd (none h)
  where
    none : ◌≡◌ {A = ℕ} 0 32 → ⊥
    none e = omega arith
lead_more (b ∷ t) h = go (eqb b 10) refl (eqb b 32) refl (lead_more t) h
  where
    other : b ≡ 10 → b ≡ 32 → ⊥
    other e f = omega arith

    go : (x : Bool) → eqb b 10 ≡ x → (y : Bool) → eqb b 32 ≡ y → (get_or t (length (leading t)) 0 ≡ 32 → length (leading t) < length (before 10 t))
        → get_or (b ∷ t) (length (before 32 (cond x [] (b ∷ before 10 t)))) 0 ≡ 32
        → length (before 32 (cond x [] (b ∷ before 10 t))) < length (cond x [] (b ∷ before 10 t))
    go true e y f ih k = absurd (other (eqb-true b 10 e) k)
    go false e true f ih k = rw f (omega arith)
    go false e false f ih k = rw f (omega (arith, ih (rw f at k)))

pub lead_last : (t : List ℕ) → (get_or t (length (leading t)) 0 ≡ 32 → ⊥) → length (before 10 t) ≤ length (leading t)
unfolding before
lead_last [] h = omega arith
lead_last (b ∷ t) h = go (eqb b 10) (eqb b 32) refl (lead_last t) h
  where
    go : (x y : Bool) → eqb b 32 ≡ y → ((get_or t (length (leading t)) 0 ≡ 32 → ⊥) → length (before 10 t) ≤ length (leading t))
        → (get_or (b ∷ t) (length (before 32 (cond x [] (b ∷ before 10 t)))) 0 ≡ 32 → ⊥)
        → length (cond x [] (b ∷ before 10 t)) ≤ length (before 32 (cond x [] (b ∷ before 10 t)))
    go true y f ih k = omega arith
    go false true f ih k = absurd ((rw f at k) (eqb-true b 32 f))
    go false false f ih k = rw f (omega (arith, ih (rw f at k)))

-- in a slice from some byte on
pub rest_before : (d from : ℕ) (s : List ℕ) {e : ℕ} → e ≡ length (before d (take (length s - from) (drop from s))) → e ≡ length (before d (drop from s))
rest_before d from s h = h ∙ ap (λ (l : List ℕ). length (before d l)) (to_end from s)

pub rest_within : (d from : ℕ) (s : List ℕ) {e : ℕ} → from ≤ length s → e ≡ length (before d (take (length s - from) (drop from s))) → from + e ≤ length s
rest_within d from s l h = omega (arith, rest_before d from s h, before_most d (drop from s), length-drop from s)

pub lead_within : (from : ℕ) (s : List ℕ) {e : ℕ} → from ≤ length s → e ≡ length (leading (take (length s - from) (drop from s))) → from + e ≤ length s
lead_within from s l h =
    omega (
      arith,
      h ∙ ap (λ (l : List ℕ). length (leading l)) (to_end from s),
      lead_most (drop from s),
      before_most 10 (drop from s),
      length-drop from s,
    )

pub lead_part : (t : List ℕ) {e : ℕ} → e ≡ length (leading t) → e ≡ length (take e t)
lead_part t h = sym (length-take-le _ t (omega (arith, h, lead_most t, before_most 10 t)))

-- ---- by the bytes at the front
abbrev pub clean : List ℕ → Bool
clean [] = true
clean (b ∷ p) = not (eqb b 10) && (not (eqb b 32) && clean p)

pub lead_clean : (p t : List ℕ) → clean p ≡ true → leading (p ++ (32 ∷ t)) ≡ p
unfolding before
lead_clean [] t h = refl
lead_clean (b ∷ p) t h = go (eqb b 10) refl (eqb b 32) refl h (lead_clean p t)
  where
    go : (x : Bool) → eqb b 10 ≡ x → (y : Bool) → eqb b 32 ≡ y → (not x && (not y && clean p)) ≡ true
        → (clean p ≡ true → leading (p ++ (32 ∷ t)) ≡ p) → leading (b ∷ (p ++ (32 ∷ t))) ≡ b ∷ p
    go true e y f k ih = cc
    go false e true f k ih = cc
    go false e false f k ih = rw (e, f) (ap (λ (l : List ℕ). b ∷ l) (ih k))

apart : {a d : ℕ} → 33 ≤ a → d ≤ 32 → a ≡ d → ⊥
apart h k e = omega arith

module _ (a b : ℕ) (t : List ℕ) (h : 33 ≤ a) where
  pub lead_one : b ≡ 32 → leading (a ∷ b ∷ t) ≡ a ∷ []
  unfolding before
  lead_one e = rw (ne_eqb a 10 (apart h (omega arith)), ne_eqb a 32 (apart h (omega arith)), e)

  pub lead_end : b ≡ 10 → leading (a ∷ b ∷ t) ≡ a ∷ []
  unfolding before
  lead_end e = rw (ne_eqb a 10 (apart h (omega arith)), ne_eqb a 32 (apart h (omega arith)), e)

  pub lead_two : 33 ≤ b → (c : ℕ) → c ≡ 32 → leading (a ∷ b ∷ c ∷ t) ≡ a ∷ b ∷ []
  unfolding before
  lead_two k c e = rw (ne_eqb a 10 (apart h (omega arith)), ne_eqb a 32 (apart h (omega arith)), ne_eqb b 10 (apart k (omega arith)), ne_eqb b 32 (apart k (omega arith)), e)

pub drop_two : (s : List ℕ) (n : ℕ) → n + 1 < length s → drop n s ≡ get_or s n 0 ∷ get_or s (n + 1) 0 ∷ drop (n + 2) s
drop_two s n h = drop-cons s n 0 (omega arith) ∙ ap (λ (l : List ℕ). get_or s n 0 ∷ l) (ap (λ (k : ℕ). drop k s) (sym (add-one n)) ∙ drop-cons s (n + 1) 0 h ∙ ap (λ (k : ℕ). get_or s (n + 1) 0 ∷ drop k s) (next n))
  where
    next : (k : ℕ) → suc (k + 1) ≡ k + 2
    next k = omega arith

pub drop_three : (s : List ℕ) (n : ℕ) → n + 2 < length s → drop n s ≡ get_or s n 0 ∷ get_or s (n + 1) 0 ∷ get_or s (n + 2) 0 ∷ drop (n + 3) s
drop_three s n h = drop_two s n (omega arith) ∙ ap (λ (l : List ℕ). get_or s n 0 ∷ get_or s (n + 1) 0 ∷ l) (drop-cons s (n + 2) 0 h ∙ ap (λ (k : ℕ). get_or s (n + 2) 0 ∷ drop k s) (next n))
  where
    next : (k : ℕ) → suc (k + 2) ≡ k + 3
    next k = omega arith
