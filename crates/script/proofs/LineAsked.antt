-- What a line asks, by its row.
--     read_none, read_over, read_unknown, read_halves      a line that can't be read; an unknown word; the two halves of the fields
--     asks_by, asks_fault                      what the first half is
-- Assumes nothing.
use Prim.Native.Nat.{ℕ, zero, suc, ◌-◌, ◌≤◌, ◌<◌}
use mathlib.Core.Path.{◌≡◌, refl, ap, sym, ◌∙◌}
use mathlib.Core.Bool.{Bool, true, false, cond, ◌&&◌, true≢false}
use mathlib.Core.List.{List, []}
use lib.Dec.{leb, eqb}
use lib.ListN.{length, get_or, length-map}
use borrow.Author.Tests.{eqb-true, le-leb, lt-leb}
use Rattle.bitset.specs.Tests.{every}
use Rattle.bitset.specs.Tests.Laws.{none_below}
use Rattle.std.specs.Prelude.{Option, Some, None}
use Rattle.script.specs.Text.{values}
use Rattle.script.specs.Names.{all_names, under, Ordered}
use Rattle.script.specs.Line.{used, Numbers, these, asks, line_of, read_line}
use Rattle.script.specs.Private.Rows.{no_word, name_count, field_count, fine, fills, is_full, IsFull, IsRow, take_from, ahead, members}
use Rattle.script.specs.declared.line.Line.{Line}
use Rattle.script.specs.declared.fields.Six.{Six}
use Rattle.script.specs.declared.row.Row.{Row}
use Rattle.script.proofs.FieldsTaken.{take_split}
use Rattle.script.proofs.ValuesInTurn.{values_some}
use Rattle.script.proofs.NamePlaces.{names_length, fills_names}
use Rattle.script.proofs.RowUnderHeader.{row_number, row_given, row_form, row_none}
use Rattle.script.proofs.LineOfRow.{Held, line_unknown, line_known}
use Rattle.script.proofs.NoForm.{line_none}

either_way : (b : Bool) {x : Option Line} → None ≡ x → None ≡ cond b x None
either_way true e = e
either_way false e = refl

and-true : (a b : Bool) → (a && b) ≡ true → (a ≡ true) × (b ≡ true)
and-true true b h = (refl, h)
and-true false b h = absurd (true≢false (sym h))

read_long : (h : List (List ℕ)) (l : List ℕ) → 255 < length l → None ≡ read_line h l
unfolding read_line every
read_long h l k = rw (lt-leb (length l) 255 k)

module _ {h : List (List ℕ)} {at l vals : List ℕ} {r : Row} (o : Ordered h at) (d : IsRow at l vals r) where
  count : length (under h (values l)) ≡ name_count
  unfolding under
  count = length-map all_names _ ∙ names_length

  -- as many values as names
  filled : fills at (length (values l)) ≡ eqb (length (values l)) (length h)
  filled = go (length (values l)) (values_some l)
    where
      go : (n : ℕ) → 0 < n → fills at n ≡ eqb n (length h)
      go zero m = absurd (none_below 0 m)
      go (suc j) m = fills_names o j

  pub read_none : r.given ≡ None → None ≡ read_line h l
  unfolding read_line every is_full
  read_none k =
      go (leb (length l) 255) (eqb (length (values l)) (length h)) refl (fine at (values l) (length (values l))) refl
      (ap (λ (b : Bool). b && fine at (values l) (length (values l))) (sym filled) ∙ (rw k at d.whole))
    where
      go : (a b : Bool) → eqb (length (values l)) (length h) ≡ b → (f : Bool) → fine at (values l) (length (values l)) ≡ f → (b && f) ≡ false
          → None ≡ cond (a && (b && true)) (line_of (under h (values l))) None
      go a true s false e z =
          let many = eqb-true (length (values l)) (length h) s in
          let (i, m, n) = row_none o (values l) many (ap (fine at (values l)) (sym many) ∙ e) in
          either_way (a && true) (line_none (under h (values l)) i count m n)
      go a true s true e z = absurd (true≢false z)
      go true false s f e z = refl
      go false false s f e z = refl

  pub read_over : 255 < r.len → None ≡ read_line h l
  read_over k = read_long h l (rw (← d.long) k)

  module _ {given : ℕ} (k : r.given ≡ Some given) (few : r.len ≤ 255) where
    is : IsFull at l vals given
    is = rw k at d.whole

    parts : (eqb (length (values l)) (length h) ≡ true) × (fine at (values l) (length (values l)) ≡ true)
    unfolding is_full
    parts = and-true _ _ (ap (λ (b : Bool). b && fine at (values l) (length (values l))) (sym filled) ∙ is.full)

    many : length (values l) ≡ length h
    many = eqb-true _ _ parts.0

    read_good : line_of (under h (values l)) ≡ read_line h l
    unfolding read_line every
    read_good = rw (le-leb (length l) 255 (rw (← d.long) few), parts.0)

    held : Held (under h (values l)) vals given
    held =
        record {
          whole = count;
          number = λ i m. rw (is.holds, many) (row_number o (values l) many i m);
          mark = λ i m. rw (is.marks, many) (row_given o (values l) many i m);
          form = λ i m. row_form o (values l) many i m (ap (fine at (values l)) (sym many) ∙ parts.1);
        }

    pub read_unknown : no_word ≤ get_or vals 0 0 → None ≡ read_line h l
    read_unknown m = line_unknown _ _ _ held m ∙ read_good

    read_known : (u : ℕ) → get_or vals 0 0 < no_word → members u 1 field_count ≡ used (get_or vals 0 0)
        → asks (get_or vals 0 0) (take_from u given vals 1 field_count (these [])) ≡ read_line h l
    read_known u m e = line_known _ _ _ u held m e ∙ read_good

    pub read_halves : (u : ℕ) (x : Option Six) → get_or vals 0 0 < no_word → members u 1 field_count ≡ used (get_or vals 0 0)
        → ((rest : Numbers) → take_from u given vals 1 6 rest ≡ ahead x rest)
        → asks (get_or vals 0 0) (ahead x (take_from u given vals 7 (field_count - 6) (these []))) ≡ read_line h l
    read_halves u x m e f = ap (asks (get_or vals 0 0)) (sym (f _) ∙ sym (take_split u given vals 1 6 (field_count - 6) (these []))) ∙ read_known u m e

pub asks_by : (w : ℕ) (x y : Option Six) (rest : Numbers) → x ≡ y → asks w (ahead y rest) ≡ asks w (ahead x rest)
asks_by w x y rest e = rw e

pub asks_fault : (w : ℕ) (x : Option Six) (rest : Numbers) → x ≡ None → None ≡ asks w (ahead x rest)
unfolding asks ahead
asks_fault w x rest e = rw e
