-- How far a loop over the values of a line is.
--     Filled, filled_start                              the numbers so far stand under their names
--     row_over, row_other                               too many values; a value of no form
--     value_here, end_most                              the value there
--     inside, next_left                                 a space behind it: the next value
--     line_end, count                                   none: the line's length, and how many values it has
-- Assumes nothing.
use Prim.Native.Nat.{ℕ, zero, suc, ◌+◌, ◌≤◌, ◌<◌}
use mathlib.Core.Path.{◌≡◌, refl, ap, sym, ◌∙◌}
use mathlib.Core.Bool.{true, false, ◌&&◌, and-false}
use mathlib.Core.List.{List, [], ◌∷◌}
use native.Mathlib.Decide.{dec_lt}
use native.Mathlib.Nat.{add-zero}
use native.Mathlib.Omega.{arith}
use lib.ListN.{length, get_or, drop, length-drop}
use lib.Seq.{get_or-drop, drop-drop}
use borrow.Author.Tests.{eqb-true, eqb-false, le-ltb}
use Rattle.std.specs.Prelude.{None}
use Rattle.script.specs.Text.{values, after}
use Rattle.script.specs.Private.Slices.{before, leading}
use Rattle.script.specs.Private.Rows.{value_under, IsFound, name_at, value_in, blank, has_form, gathered, marked, fine, fills, is_full, IsRow}
use Rattle.script.specs.declared.line.Value.TheVariants.{Other}
use Rattle.script.specs.declared.row.Found.{Found}
use Rattle.script.proofs.ValuesInTurn.{values_more, values_last, values_some, first_value, after_drop}
use Rattle.script.proofs.FirstValue.{before_drop, before_rest, lead_most, lead_more, lead_last}

-- ---- a value of no form
fine_not : (at : List ℕ) (vs : List (List ℕ)) (j n : ℕ) → j < n → has_form (value_in at vs j) ≡ false → fine at vs n ≡ false
unfolding fine
fine_not at vs j zero l h = absurd (none l)
  where
    none : j < 0 → ⊥
    none k = omega arith
fine_not at vs j (suc n) l h = go (dec_lt j n) (λ k. fine_not at vs j n k h)
  where
    go : Dec (j < n) → (j < n → fine at vs n ≡ false) → (fine at vs n && has_form (value_in at vs n)) ≡ false
    go (yes k) ih = rw (ih k)
    go (no k) ih = let e : n ≡ j = omega arith in rw (e, h) (and-false (fine at vs j))

-- ---- more values than there are places
fills_over : (at : List ℕ) (n : ℕ) → 16 ≤ n → fills at n ≡ false
unfolding fills
fills_over at zero l = refl
fills_over at (suc j) l = rw (le-ltb (suc j) 16 l)

-- ---- the loop, over a line l = before 10 s
pub record Filled (s at vals : List ℕ) (given from j : ℕ) : Type 0 where
  pub within : from ≤ length (before 10 s)
  pub less : j ≤ from
  pub left : drop j (values (before 10 s)) ≡ values (drop from (before 10 s))
  pub holds : j ≤ 15 → vals ≡ gathered at (values (before 10 s)) j
  pub marks : j ≤ 15 → given ≡ marked at (values (before 10 s)) j
  pub good : j ≤ 15 → fine at (values (before 10 s)) j ≡ true

pub filled_start : (s at vals : List ℕ) → vals ≡ blank → Filled s at vals 0 0 0
unfolding gathered marked fine
filled_start s at vals h =
    record {
      within = omega arith;
      less = omega arith;
      left = refl;
      holds = λ l. h;
      marks = λ l. refl;
      good = λ l. refl;
    }

module _ {s at vals : List ℕ} {given from j : ℕ} (p : Filled s at vals given from j) where
  abbrev l : List ℕ
  l = before 10 s

  abbrev vs : List (List ℕ)
  vs = values (before 10 s)

  rest : drop from l ≡ before 10 (drop from s)
  rest = before_drop 10 from s p.within

  here : get_or vs j [] ≡ leading (drop from s)
  here =
      sym (ap (λ (n : ℕ). get_or vs n []) (add-zero j))
      ∙ sym (get_or-drop j vs 0 [])
      ∙ ap (λ (k : List (List ℕ)). get_or k 0 []) p.left
      ∙ first_value (drop from l)
      ∙ ap (before 32) rest

  -- there is a value at j
  some : j < length vs
  some = omega (arith, ap length p.left, length-drop j vs, values_some (drop from l))

  -- too many values
  pub row_over : {n : ℕ} → 15 ≤ j → n ≡ from + length (before 10 (drop from s)) → IsRow at l vals (record { given = None; len = n })
  unfolding is_full
  row_over {n} h e =
      record {
        long = e ∙ before_rest 10 from s p.within;
        whole = rw (fills_over at (length vs) (omega (arith, some)));
      }

  module _ {f : Found} (q : IsFound (name_at at j) s from f) where
    pub value_here : value_in at vs j ≡ f.value
    unfolding value_in
    value_here = ap (value_under (name_at at j)) here ∙ sym q.value

    pub end_most : f.end ≤ length l
    end_most = omega (arith, q.end, lead_most (drop from s), before_rest 10 from s p.within)

    -- a value of no form
    pub row_other : {n : ℕ} → f.value ≡ Other → n ≡ f.end + length (before 10 (drop f.end s)) → IsRow at l vals (record { given = None; len = n })
    unfolding is_full has_form
    row_other {n} o e =
        record {
          long = e ∙ before_rest 10 f.end s end_most;
          whole = rw (fine_not at vs j (length vs) some (rw (value_here, o))) (and-false (fills at (length vs)));
        }

    -- a space behind it
    module _ (m : f.more ≡ true) where
      space : get_or (drop from s) (length (leading (drop from s))) 0 ≡ 32
      space = get_or-drop from s _ 0 ∙ ap (λ (n : ℕ). get_or s n 0) (sym q.end) ∙ eqb-true _ _ (sym q.more ∙ m)

      pub inside : f.end + 1 ≤ length l
      inside = omega (arith, q.end, lead_more (drop from s) space, before_rest 10 from s p.within)

      pub next_left : drop (j + 1) vs ≡ values (drop (f.end + 1) l)
      next_left =
          let k : length (before 32 (drop from l)) < length (drop from l) = rw rest (lead_more (drop from s) space) in
          let v : drop j vs ≡ before 32 (drop from l) ∷ values (after 32 (drop from l)) = p.left ∙ values_more (drop from l) k in
          let w : drop (suc (length (before 32 (drop from l)))) (drop from l) ≡ after 32 (drop from l) = after_drop 32 (drop from l) in
          sym (drop-drop 1 j vs)
          ∙ ap (drop 1) v
          ∙ ap values (sym w ∙ drop-drop _ from l ∙ ap (λ (n : ℕ). drop n l) onward)
        where
          onward : from + suc (length (before 32 (drop from l))) ≡ f.end + 1
          onward = omega (arith, q.end, ap (λ (k : List ℕ). length (before 32 k)) rest)

    -- the line ends with it
    module _ (m : f.more ≡ false) where
      no_space : get_or (drop from s) (length (leading (drop from s))) 0 ≡ 32 → ⊥
      no_space e =
          eqb-false _ _ (sym q.more ∙ m) (ap (λ (n : ℕ). get_or s n 0) q.end ∙ sym (get_or-drop from s _ 0) ∙ e)

      pub line_end : f.end ≡ length l
      line_end = omega (arith, q.end, lead_last (drop from s) no_space, lead_most (drop from s), before_rest 10 from s p.within)

      pub count : length vs ≡ j + 1
      count =
          let k : length (drop from l) ≤ length (before 32 (drop from l)) = rw rest (lead_last (drop from s) no_space) in
          let v : drop j vs ≡ before 32 (drop from l) ∷ [] = p.left ∙ values_last (drop from l) k in
          omega (arith, ap length v, length-drop j vs)
