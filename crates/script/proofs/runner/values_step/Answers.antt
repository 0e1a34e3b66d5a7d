-- `values_step`: one line of values, or the rest of one that has been answered. Each return is a law of StepReturns. Assumes nothing.
use Rattle.script.proofs.FirstValue.{before_part, before_all}
use Rattle.script.proofs.StepReturns.{found_step, none_step, whole_step, long_step, last_step}
use borrow.Author.Rules.{rules}
use Rattle.script.proofs.runner.values_step.Goals as goal

pub returns-then-e-piece : goal.returns-then-e-piece
returns-then-e-piece c =
    found_step _ _ _ c.find-e.ensures c.requires c.if-r.true c.if-e-piece.true

pub returns-then-r : goal.returns-then-r
returns-then-r c =
    none_step _ _ _ c.find-e.ensures c.requires c.if-r.true c.if-e-piece.false

pub answer_values-requires : goal.answer_values-requires
answer_values-requires c = (search rules, search rules, before_part 10 _ c.find-e.ensures)

pub returns-then-e-piece-2 : goal.returns-then-e-piece-2
returns-then-e-piece-2 c =
    rw c.using.ensures (whole_step _ _ _ c.find-e.ensures c.requires c.if-r.false c.if-r-ge-LAST_LINE.false c.if-out-lt-LINE_ROOM.false c.if-e-piece-2.true c.answer_values.ensures)

pub answer_values-said-requires : goal.answer_values-said-requires
answer_values-said-requires c = (search rules, search rules, before_all 10 _ c.find-e.ensures c.if-e-piece-2.false)

pub returns-then-e-gt-LONGEST : goal.returns-then-e-gt-LONGEST
returns-then-e-gt-LONGEST c =
    rw c.using-then-e-gt-LONGEST.ensures (long_step _ _ _ c.find-e.ensures c.requires c.if-r.false c.if-r-ge-LAST_LINE.false c.if-out-lt-LINE_ROOM.false c.if-e-piece-2.false c.if-e-gt-LONGEST.true c.answer_values-said.ensures)

pub answer_values-requires-then-end-e : goal.answer_values-requires-then-end-e
answer_values-requires-then-end-e c =
    (search rules, search rules, before_all 10 _ c.find-e.ensures c.if-e-piece-2.false)

pub returns-then-end-e : goal.returns-then-end-e
returns-then-end-e c =
    rw c.using-then-end-e.ensures (last_step _ _ _ c.find-e.ensures c.requires c.if-r.false c.if-r-ge-LAST_LINE.false c.if-out-lt-LINE_ROOM.false c.if-e-piece-2.false c.if-end-e.true c.answer_values-then-end-e.ensures)
