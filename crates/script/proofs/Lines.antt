-- Laws of the parts of a text: what stands before and after the first byte d, when more text follows.
--     lines_first                    a text that is not empty is its first line, and the lines after it
--     found_short                    what stands before is no longer than the text
--     before_append, after_append    with a byte d in the text, more text changes only what stands after
--     before_all, after_all          with none, more text goes on
--     before_whole, after_none       with none, and no more text
-- Assumes nothing.
use Prim.Native.Nat.{ℕ, suc, ◌≤◌, ◌<◌}
use mathlib.Core.Path.{◌≡◌, refl, ap, sym, ◌∙◌}
use mathlib.Core.Bool.{Bool, true, false, cond}
use mathlib.Core.List.{List, [], ◌∷◌, ◌++◌, append-nil}
use lib.Dec.{eqb}
use lib.ListN.{length}
use native.Mathlib.Omega.{arith}
use Rattle.script.specs.Text.{onto, lines, after}
use Rattle.script.specs.Private.Slices.{before}
use Rattle.script.proofs.ValuesInTurn.{before_most}

pub lines_first : (s : List ℕ) → 0 < length s → lines s ≡ before 10 s ∷ lines (after 10 s)
unfolding lines before after onto
lines_first [] h = absurd (none h)
  where
    none : 0 < 0 → ⊥
    none h = omega arith
lines_first (b ∷ []) h = go (eqb b 10)
  where
    go : (t : Bool) → cond t ([] ∷ []) ((b ∷ []) ∷ []) ≡ cond t [] (b ∷ []) ∷ lines (cond t [] [])
    go true = refl
    go false = refl
lines_first (b ∷ c ∷ s) h = go (eqb b 10) (lines_first (c ∷ s) (omega arith))
  where
    go : (t : Bool) → lines (c ∷ s) ≡ before 10 (c ∷ s) ∷ lines (after 10 (c ∷ s))
        → cond t ([] ∷ lines (c ∷ s)) (onto b (lines (c ∷ s)))
        ≡ cond t [] (b ∷ before 10 (c ∷ s)) ∷ lines (cond t (c ∷ s) (after 10 (c ∷ s)))
    go true e = refl
    go false e = ap (onto b) e

module _ (d : ℕ) where
  pub found_short : (s : List ℕ) (k : ℕ) → k ≡ length (before d s) → k ≤ length s
  found_short s k h = omega (arith, before_most d s)

  module _ (m : List ℕ) where
    pub before_append : (s : List ℕ) → length (before d s) < length s → before d (s ++ m) ≡ before d s
    unfolding before
    before_append [] h = absurd (none h)
      where
        none : 0 < 0 → ⊥
        none h = omega arith
    before_append (b ∷ s) h = go (eqb b d) (before_append s) h
      where
        go : (t : Bool) → (length (before d s) < length s → before d (s ++ m) ≡ before d s)
            → length (cond t [] (b ∷ before d s)) < suc (length s)
            → cond t [] (b ∷ before d (s ++ m)) ≡ cond t [] (b ∷ before d s)
        go true e h = refl
        go false e h = ap (λ (l : List ℕ). b ∷ l) (e (omega arith))

    pub after_append : (s : List ℕ) → length (before d s) < length s → after d (s ++ m) ≡ after d s ++ m
    unfolding before after
    after_append [] h = absurd (none h)
      where
        none : 0 < 0 → ⊥
        none h = omega arith
    after_append (b ∷ s) h = go (eqb b d) (after_append s) h
      where
        go : (t : Bool) → (length (before d s) < length s → after d (s ++ m) ≡ after d s ++ m)
            → length (cond t [] (b ∷ before d s)) < suc (length s)
            → cond t (s ++ m) (after d (s ++ m)) ≡ cond t s (after d s) ++ m
        go true e h = refl
        go false e h = e (omega arith)

    pub before_all : (s : List ℕ) → length s ≤ length (before d s) → before d (s ++ m) ≡ s ++ before d m
    unfolding before
    before_all [] h = refl
    before_all (b ∷ s) h = go (eqb b d) (before_all s) h
      where
        go : (t : Bool) → (length s ≤ length (before d s) → before d (s ++ m) ≡ s ++ before d m)
            → suc (length s) ≤ length (cond t [] (b ∷ before d s))
            → cond t [] (b ∷ before d (s ++ m)) ≡ b ∷ (s ++ before d m)
        go true e h = absurd (past (length s) h)
          where
            past : (n : ℕ) → suc n ≤ 0 → ⊥
            past n h = omega arith
        go false e h = ap (λ (l : List ℕ). b ∷ l) (e (omega arith))

    pub after_all : (s : List ℕ) → length s ≤ length (before d s) → after d (s ++ m) ≡ after d m
    unfolding before after
    after_all [] h = refl
    after_all (b ∷ s) h = go (eqb b d) (after_all s) h
      where
        go : (t : Bool) → (length s ≤ length (before d s) → after d (s ++ m) ≡ after d m)
            → suc (length s) ≤ length (cond t [] (b ∷ before d s))
            → cond t (s ++ m) (after d (s ++ m)) ≡ after d m
        go true e h = absurd (past (length s) h)
          where
            past : (n : ℕ) → suc n ≤ 0 → ⊥
            past n h = omega arith
        go false e h = e (omega arith)

  before_nil : before d [] ≡ []
  unfolding before
  before_nil = refl

  after_nil : after d [] ≡ []
  unfolding after
  after_nil = refl

  pub before_whole : (s : List ℕ) → length s ≤ length (before d s) → before d s ≡ s
  before_whole s h = sym (ap (before d) (append-nil s)) ∙ before_all [] s h ∙ ap (λ (l : List ℕ). s ++ l) before_nil ∙ append-nil s

  pub after_none : (s : List ℕ) → length s ≤ length (before d s) → after d s ≡ []
  after_none s h = sym (ap (after d) (append-nil s)) ∙ after_all [] s h ∙ after_nil
