-- `script::row::any_at` meets its contract: the value that ends at the next delimiter. Assumes nothing.
use native.Mathlib.Omega.{arith}
use Rattle.script.proofs.FirstValue.{lead_within, lead_part}
use Rattle.script.proofs.FoundValue.{value_call, value_later, found_any}
use Rattle.script.proofs.row.any_at.Goals as goal

pub overflow_add-end : goal.overflow_add-end
overflow_add-end c =
    omega (arith, lead_within c.args.from c.args.s.now c.requires c.span-e.ensures)

pub slice_bounds-v-end : goal.slice_bounds-v-end
slice_bounds-v-end c = lead_part _ c.span-e.ensures

pub returns-then-i-eq0 : goal.returns-then-i-eq0
returns-then-i-eq0 c =
    found_any _ _ _ _ _ _ c.span-e.ensures c.is_space-more.ensures (value_call _ c.if-i-eq0.true c.word-value.ensures)

pub returns : goal.returns
returns c =
    found_any _ _ _ _ _ _ c.span-e.ensures c.is_space-more.ensures (value_later _ c.if-i-eq0.false c.value-value.ensures)
