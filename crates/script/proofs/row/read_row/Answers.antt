-- `script::row::read_row` meets its contract. The loop's invariant: the numbers so far stand under their names. The measure is
-- what is left of the slice. Assumes nothing.
use mathlib.Core.Path.{refl, ap, ◌∙◌}
use native.Mathlib.Nat.{mod-eq_of_lt}
use native.Mathlib.Omega.{arith}
use Rattle.bitset.specs.Sets.{with}
use Rattle.script.proofs.RowLoop.{filled_start, row_other, row_over}
use Rattle.script.proofs.RowStores.{stored_number, stored_dash, filled_next, row_last, filled_slice, found_slice, filled_skip}
use Rattle.script.proofs.row.read_row.Goals.{in-Digits+else-found, in-Dash+else-found-2}
use Rattle.script.proofs.row.read_row.Goals as goal

pub loop-from-init : goal.loop-from-init
loop-from-init c = filled_start _ _ _ c.requires

pub overflow_add-from : goal.overflow_add-from
overflow_add-from c = omega (arith, filled_slice c.loop-from.invariant, c.loop-from.invariant.less)

pub loop-from-preserved-then-pair-eq8237 : goal.loop-from-preserved-then-pair-eq8237
loop-from-preserved-then-pair-eq8237 c = filled_skip c.loop-from.invariant c.if-from-s.true c.pair.ensures c.if-pair-eq8237.true

pub end_of-requires : goal.end_of-requires
end_of-requires c = omega (arith, filled_slice c.loop-from.invariant, c.loop-from.invariant.less)

pub returns-then-j-ge-LAST_PLACE : goal.returns-then-j-ge-LAST_PLACE
returns-then-j-ge-LAST_PLACE c = row_over c.loop-from.invariant c.if-j-ge-LAST_PLACE.true c.end_of.ensures

pub value_at-found-requires : goal.value_at-found-requires
value_at-found-requires c = omega (arith, filled_slice c.loop-from.invariant, c.loop-from.invariant.less)

pub end_of-requires-in-Other : goal.end_of-requires-in-Other
end_of-requires-in-Other c = omega (arith, found_slice c.loop-from.invariant c.value_at-found.ensures)

pub returns-in-Other : goal.returns-in-Other
returns-in-Other c = row_other c.loop-from.invariant c.value_at-found.ensures c.in-Other.is c.end_of-in-Other.ensures

pub loop-from-preserved-then-found : goal.loop-from-preserved-then-found
loop-from-preserved-then-found c =
    filled_next c.loop-from.invariant c.value_at-found.ensures (stored_number c.in-Digits.is refl (c.with-given.ensures ∙ ap (with _) (mod-eq_of_lt (omega arith)))) c.if-found.true

pub loop-from-preserved : goal.loop-from-preserved
loop-from-preserved c = filled_next c.loop-from.invariant c.value_at-found.ensures (stored_dash c.in-Dash.is refl refl) c.if-found-2.true

pub returns-in-loop-from : goal.returns-in-loop-from
returns-in-loop-from c = elim c.match-found.branch [
  | in-Digits+else-found w ↦ row_last c.loop-from.invariant c.value_at-found.ensures (stored_number w.in-Digits.is w.vals-is (w.given-is ∙ w.with-given.ensures ∙ ap (with _) (mod-eq_of_lt (omega arith)))) w.if-found.false (omega arith) c.is_last.ensures c.then_some.ensures
  | in-Dash+else-found-2 w ↦ row_last c.loop-from.invariant c.value_at-found.ensures (stored_dash w.in-Dash.is w.vals-is w.given-is) w.if-found-2.false (omega arith) c.is_last.ensures c.then_some.ensures
]
