-- Words on slices, in which the contracts of private functions are put.
--     before, leading     what stands before a byte; the first value of the first line
--     written, Put        a store into a slice
use Rattle.std.specs.Prelude.{ℕ, ◌+◌, ◌≡◌, cond, List, [], ◌∷◌, eqb, length}
use Rattle.std.proofs.lemmas.List.Edits.{sets}

-- what stands before the first byte d
unfoldable pub before : ℕ → List ℕ → List ℕ
before d [] = []
before d (b ∷ s) = cond (eqb b d) [] (b ∷ before d s)

-- the first value of the first line
abbrev pub leading : List ℕ → List ℕ
leading s = before 32 (before 10 s)

-- l with the elements vs in place of those from i on; and a store that ends at r
unfoldable pub written : List ℕ → ℕ → List ℕ → List ℕ
written l i vs = sets l i vs

pub record Put (old : List ℕ) (i : ℕ) (vs : List ℕ) (new : List ℕ) (r : ℕ) : Type 0 where
  pub holds : new ≡ written old i vs
  pub next : r ≡ i + length vs
