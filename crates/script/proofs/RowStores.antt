-- A loop that stores each number of a line under its name.
--     Stored, stored_number, stored_dash      a value put under its name
--     filled_next, row_last                   the next value is a number or a dash, and it is the last one
--     filled_slice, found_slice               the loop stays in the slice
--     filled_skip                             a dash with a space behind it
-- Assumes nothing.
use Prim.Native.Nat.{ℕ, ◌+◌, ◌*◌, ◌≤◌, ◌<◌}
use mathlib.Core.Path.{◌≡◌, refl}
use mathlib.Core.Bool.{Bool, true, false}
use mathlib.Core.List.{List}
use native.Mathlib.Numerals.{add-one}
use native.Mathlib.Omega.{arith}
use lib.ListN.{length, get_or, set}
use Rattle.std.specs.Prelude.{Option, MatchOption}
use Rattle.std.specs.Bool.{then_some}
use Rattle.bitset.specs.Sets.{with}
use Rattle.script.specs.Text.{values}
use Rattle.script.specs.Private.Slices.{before}
use Rattle.script.specs.Private.Rows.{IsFound, name_at, put_under, mark_under, has_form, gathered, marked, fine, fills, is_full, IsFull, IsRow}
use Rattle.script.specs.declared.line.Value.{Value}
use Rattle.script.specs.declared.line.Value.TheVariants.{Digits, Dash}
use Rattle.script.specs.declared.row.Found.{Found}
use Rattle.script.proofs.ValuesInTurn.{before_most}
use Rattle.script.proofs.FoundValue.{found_dash}
use Rattle.script.proofs.RowLoop.{Filled, value_here, end_most, inside, next_left, line_end, count}

-- a value put under the name i
pub record Stored (vals : List ℕ) (given i : ℕ) (x : Value) (row2 : List ℕ) (g : ℕ) : Type 0 where
  pub form : has_form x ≡ true
  pub holds : row2 ≡ put_under vals i x
  pub marks : g ≡ mark_under given i x

module _ {vals row2 : List ℕ} {given i g : ℕ} {x : Value} where
  pub stored_number : {n : ℕ} → x ≡ Digits n → row2 ≡ set vals i n → g ≡ with given i → Stored vals given i x row2 g
  unfolding has_form put_under mark_under
  stored_number e a b = rw e (record { form = refl; holds = a; marks = b })

  pub stored_dash : x ≡ Dash → row2 ≡ vals → g ≡ given → Stored vals given i x row2 g
  unfolding has_form put_under mark_under
  stored_dash e a b = rw e (record { form = refl; holds = a; marks = b })

module _ {s at vals : List ℕ} {given from j : ℕ} (p : Filled s at vals given from j) {f : Found} (q : IsFound (name_at at j) s from f) where
  abbrev l : List ℕ
  l = before 10 s

  abbrev vs : List (List ℕ)
  vs = values (before 10 s)

  -- it is a number or a dash, and has been stored
  module _ {row2 : List ℕ} {g : ℕ} (t : Stored vals given (name_at at j) f.value row2 g) where
    stored : j < 15 → row2 ≡ gathered at vs (j + 1)
    unfolding gathered
    stored k = rw (add-one, value_here p q, ← p.holds (omega arith)) t.holds

    noted : j < 15 → g ≡ marked at vs (j + 1)
    unfolding marked
    noted k = rw (add-one, value_here p q, ← p.marks (omega arith)) t.marks

    kept : j < 15 → fine at vs (j + 1) ≡ true
    unfolding fine
    kept k = rw (add-one, p.good (omega arith), value_here p q, t.form)

    pub filled_next : f.more ≡ true → Filled s at row2 g (f.end + 1) (j + 1)
    filled_next m =
        record {
          within = inside p q m;
          less = omega (arith, p.less, q.end);
          left = next_left p q m;
          holds = λ z. stored (omega arith);
          marks = λ z. noted (omega arith);
          good = λ z. kept (omega arith);
        }

    pub row_last : f.more ≡ false → j < 15 → {last : Bool} → last ≡ fills at (j + 1) → {r : Option ℕ} → r ≡ then_some last g
        → IsRow at l row2 (record { given = r; len = f.end })
    unfolding is_full
    row_last m k {last} is {r} e = record { long = line_end p q m; whole = rw e (go last is) }
      where
        go : (b : Bool) → b ≡ fills at (j + 1) → MatchOption (then_some b g) (is_full at (values l) ≡ false) (IsFull at l row2)
        go true is =
            record {
              full = rw (count p q m, ← is, kept k);
              holds = rw (count p q m) (stored k);
              marks = rw (count p q m) (noted k);
            }
        go false is = rw (count p q m, ← is)

-- ---- how far the loop is, and a dash with a space behind it
pub filled_slice : {s at vals : List ℕ} {given from j : ℕ} → Filled s at vals given from j → from ≤ length s
filled_slice {s} p = omega (arith, p.within, before_most 10 s)

pub found_slice : {s at vals : List ℕ} {given from j : ℕ} {f : Found} → Filled s at vals given from j → IsFound (name_at at j) s from f → f.end ≤ length s
found_slice {s} p q = omega (arith, end_most p q, before_most 10 s)

pub filled_skip : {s at vals : List ℕ} {given from j r : ℕ} → Filled s at vals given from j → from + 2 < length s
    → (r ≡ get_or s from 0 + 256 * get_or s (from + 1) 0) × (get_or s from 0 < 256) → r ≡ 8237 → Filled s at vals given (from + 2) (j + 1)
filled_skip {s} {at} {vals} {given} {from} {j} {r} p l h e =
    let q = found_dash (name_at at j) from r s l h.0 h.1 e in
    rw (← two from) (filled_next p q (stored_dash refl refl refl) refl)
  where
    two : (n : ℕ) → n + 1 + 1 ≡ n + 2
    two n = omega arith
