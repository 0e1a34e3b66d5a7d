-- The rights of a role on an entity, and the four sets that they are read from.
--     rights_none, rights_zero                                          no rights are no membership, and back
--     contains_read, contains_write, contains_execute, contains_own     one right is one membership
--     rights_small                                                      rights are below 16
--     has_put_same, has_put_other, put_same                             a set with e put_in in or out
--     rights_granted, rights_other, rights_cleared                      the rights after an edit, on e and on others
-- Assumes nothing.
use Prim.Native.Nat.{ℕ, ◌+◌, ◌<◌}
use mathlib.Core.Path.{◌≡◌, refl}
use mathlib.Core.Bool.{Bool, true, false, cond}
use lib.Dec.{eqb}
use native.Mathlib.Decide.{ℕ_discrete}
use native.Mathlib.Omega.{arith}
use borrow.Author.Tests.{eqb-true}
use Rattle.bitset.specs.Tests.{all}
use Rattle.bitset.specs.Tests.Laws.{all_e}
use Rattle.bitset.specs.Sets.{has, contains}
use Rattle.bitset.specs.Sets.Laws.{sets_ext, has_with_same, has_with_other, has_without_same, has_without_other}
use Rattle.guard.specs.Tables.{rights_of}
use Rattle.guard.specs.Edits.{put_in, granting, set_rights, clear_rights}
use Rattle.guard.specs.declared.Role.{Role}

-- ---- four flags, added up
abbrev sum : Bool → Bool → Bool → Bool → ℕ
sum r w x o = cond r 1 0 + cond w 2 0 + cond x 4 0 + cond o 8 0

sum_zero : (r w x o : Bool) → sum r w x o ≡ 0 → (r ≡ false) × (w ≡ false) × (x ≡ false) × (o ≡ false)
sum_zero true w x o h = absurd (omega arith)
sum_zero false true x o h = absurd (omega arith)
sum_zero false false true o h = absurd (omega arith)
sum_zero false false false true h = absurd (omega arith)
sum_zero false false false false h = (refl, refl, refl, refl)

-- each right of the sum is its flag
abbrev Flags : Bool → Bool → Bool → Bool → ℕ → Type 0
Flags r w x o n = (contains n 1 ≡ r) × (contains n 2 ≡ w) × (contains n 4 ≡ x) × (contains n 8 ≡ o)

sum_flags : (r w x o : Bool) → Flags r w x o (sum r w x o)
unfolding contains
sum_flags true true true true = (refl, refl, refl, refl)
sum_flags true true true false = (refl, refl, refl, refl)
sum_flags true true false true = (refl, refl, refl, refl)
sum_flags true true false false = (refl, refl, refl, refl)
sum_flags true false true true = (refl, refl, refl, refl)
sum_flags true false true false = (refl, refl, refl, refl)
sum_flags true false false true = (refl, refl, refl, refl)
sum_flags true false false false = (refl, refl, refl, refl)
sum_flags false true true true = (refl, refl, refl, refl)
sum_flags false true true false = (refl, refl, refl, refl)
sum_flags false true false true = (refl, refl, refl, refl)
sum_flags false true false false = (refl, refl, refl, refl)
sum_flags false false true true = (refl, refl, refl, refl)
sum_flags false false true false = (refl, refl, refl, refl)
sum_flags false false false true = (refl, refl, refl, refl)
sum_flags false false false false = (refl, refl, refl, refl)

-- ---- the rights on e
pub rights_none : (p : Role) (e : ℕ) → has p.reads e ≡ false → has p.writes e ≡ false → has p.executes e ≡ false
    → has p.owns e ≡ false → rights_of p e ≡ 0
unfolding rights_of
rights_none p e r w x o = rw (r, w, x, o)

pub rights_zero : (p : Role) (e : ℕ) → rights_of p e ≡ 0
    → (has p.reads e ≡ false) × (has p.writes e ≡ false) × (has p.executes e ≡ false) × (has p.owns e ≡ false)
unfolding rights_of
rights_zero p e = sum_zero (has p.reads e) (has p.writes e) (has p.executes e) (has p.owns e)

flags : (p : Role) (e : ℕ) → Flags (has p.reads e) (has p.writes e) (has p.executes e) (has p.owns e) (rights_of p e)
unfolding rights_of
flags p e = sum_flags (has p.reads e) (has p.writes e) (has p.executes e) (has p.owns e)

pub contains_read : (p : Role) (e : ℕ) → contains (rights_of p e) 1 ≡ has p.reads e
contains_read p e = (flags p e).0

pub contains_write : (p : Role) (e : ℕ) → contains (rights_of p e) 2 ≡ has p.writes e
contains_write p e = (flags p e).1

pub contains_execute : (p : Role) (e : ℕ) → contains (rights_of p e) 4 ≡ has p.executes e
contains_execute p e = (flags p e).2

pub contains_own : (p : Role) (e : ℕ) → contains (rights_of p e) 8 ≡ has p.owns e
contains_own p e = (flags p e).3

bit_le : (b : Bool) (n : ℕ) → cond b n 0 < n + 1
bit_le true n = omega arith
bit_le false n = omega arith

pub rights_small : (p : Role) (e : ℕ) → rights_of p e < 16
unfolding rights_of
rights_small p e =
    omega (arith, bit_le (has p.reads e) 1, bit_le (has p.writes e) 2, bit_le (has p.executes e) 4, bit_le (has p.owns e) 8)

-- ---- a set with e put_in in or out
pub has_put_same : (b : Bool) (e s : ℕ) → has (put_in b e s) e ≡ b
unfolding put_in
has_put_same true e s = has_with_same s e
has_put_same false e s = has_without_same s e

pub has_put_other : (b : Bool) (e s i : ℕ) → (i ≡ e → ⊥) → has (put_in b e s) i ≡ has s i
unfolding put_in
has_put_other true e s i ne = has_with_other s e i ne
has_put_other false e s i ne = has_without_other s e i ne

pub put_same : (e s : ℕ) → put_in (has s e) e s ≡ s
put_same e s = sets_ext (put_in (has s e) e s) s (λ i. go i (ℕ_discrete i e))
  where
    go : (i : ℕ) → Dec (i ≡ e) → has (put_in (has s e) e s) i ≡ has s i
    go i (yes same) = rw same (has_put_same (has s e) e s)
    go i (no ne) = has_put_other (has s e) e s i ne

-- ---- the rights after an edit
-- a number below 16 is its four flags, added up
flags_sum : (n : ℕ) → n < 16 → sum (contains n 1) (contains n 2) (contains n 4) (contains n 8) ≡ n
unfolding all contains
flags_sum n h = eqb-true _ _ (all_e 16 (λ m. eqb (sum (contains m 1) (contains m 2) (contains m 4) (contains m 8)) m) refl n h)

pub rights_granted : (e n : ℕ) (p : Role) → n < 16 → rights_of (granting e n p) e ≡ n
unfolding rights_of
rights_granted e n p h = simp has_put_same (flags_sum n h)

pub rights_other : (e n : ℕ) (p : Role) (i : ℕ) → (i ≡ e → ⊥) → rights_of (granting e n p) i ≡ rights_of p i
unfolding rights_of
rights_other e n p i ne =
    rw (has_put_other _ e p.reads i ne, has_put_other _ e p.writes i ne, has_put_other _ e p.executes i ne, has_put_other _ e p.owns i ne)

pub rights_cleared : (e : ℕ) (p : Role) → rights_of (clear_rights e p) e ≡ 0
unfolding clear_rights set_rights
rights_cleared e p = rights_granted e 0 p (omega arith)
