-- `gather`: the loop over lines keeps Taken (GatherLoop). Assumes nothing.
use mathlib.Core.Path.{refl, sym, ◌∙◌}
use native.Mathlib.Omega.{arith}
use Rattle.script.proofs.GatherLoop.{taken_none, taken_next, taken_all, count_few, goes_on}
use Rattle.script.proofs.LinesInBatch.{one_least}
use borrow.Author.Rules.{rules}
use Rattle.script.proofs.batch.gather.Goals as goal

pub loop-lines-init : goal.loop-lines-init
loop-lines-init c = (search rules, search rules, taken_none _ _ _ _ _)

pub returns-then-rest-x : goal.returns-then-rest-x
returns-then-rest-x c = let held = c.loop-lines.invariant in taken_all _ held.2 refl (omega arith) (omega arith) (omega arith)

pub load-asks-requires : goal.load-asks-requires
load-asks-requires c =
    let held = c.loop-lines.invariant in omega (arith, count_few held.2, held.0, c.requires.1)

pub overflow_add-count : goal.overflow_add-count
overflow_add-count c =
    let few = count_few c.loop-lines.invariant.2 in let one = one_least _ c.from-count.ensures in search rules

pub loop-lines-preserved : goal.loop-lines-preserved
loop-lines-preserved c =
    let on = goes_on c.args.s.now c.loop-lines.used c.next-x.result.len _ c.if-rest-x.false in
    let held = c.loop-lines.invariant.2 in
    let loaded = c.load-asks.ensures in
    (search rules, search rules, taken_next held (omega (arith, count_few held)) (omega arith) c.next-x.ensures.0 c.next-x.ensures.1 on.0 (sym c.is_allowed.ensures ∙ on.2) loaded.0 loaded.1 c.from-count.ensures)

pub returns : goal.returns
returns c = taken_all _ c.loop-lines.invariant.2 (omega arith) (omega arith) (omega arith) (omega arith)
