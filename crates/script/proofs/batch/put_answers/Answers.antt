-- `put_answers` writes one line after another. Assumes nothing.
use Prim.Native.Nat.{◌<◌}
use mathlib.Core.Path.{refl, sym, ap, ◌∙◌}
use mathlib.Core.Bool.{false}
use native.Mathlib.Nat.{add-zero}
use native.Mathlib.Omega.{arith}
use denote.Bor.{Bor}
use Prim.Native.Nat.{ℕ}
use lib.ListN.{length, take, length-take}
use Rattle.script.specs.Private.LineBatch.{asked}
use lib.Seq.{get_or-take}
use Rattle.std.proofs.Common.{Iter}
use Rattle.script.proofs.BatchStep.{line_few, along, asked_none, asked_below, first_left, Answered, asks_one, asks_none, texts_none, texts_more}
use borrow.Author.Rules.{rules}
use Rattle.script.proofs.batch.put_answers.Goals as goal
use Rattle.script.proofs.batch.put_answers.Goals.{then-asks, else-asks}

pub loop-asks-init : goal.loop-asks-init
loop-asks-init c = (rw add-zero c.numeral_of-k.ensures, search rules, search rules, rw (← asked_none) c.iter-left.ensures.rest, texts_none _ _)

pub overflow_add-wrote : goal.overflow_add-wrote
overflow_add-wrote c = let few = line_few _ _ c.put_line-wrote.ensures in search rules

pub loop-asks-preserved : goal.loop-asks-preserved
loop-asks-preserved c =
    let held = c.loop-asks.invariant in
    let i = c.loop-asks.asks-index in
    let turn : i < c.args.lines = omega (arith, c.loop-asks-test.true, length-take c.args.lines c.args.marks.now) in
    let here = get_or-take c.args.lines c.args.marks.now i false turn in
    let few = line_few _ _ c.put_line-wrote.ensures in
    let reads : asked (take i c.args.marks.now) < length c.args.answers.now = omega (arith, turn, c.requires.1, asked_below c.args.marks.now i refl) in
    let on : Answered c.args.marks.now c.args.answers.now i c.args.lines turn (omega arith) c.unwrap_or-a.result.now c.if-asks.left.rest.now
    = elim c.if-asks.branch [
      | then-asks w ↦
          let first = first_left c.args.answers.now _ _ _ _ w.next-is c.unwrap_or-a.ensures held.3 reads w.next-next.ensures.steps in
          asks_one _ _ _ _ turn (omega arith) (sym here ∙ w.if-asks.true) (first.0, ap (λ (s : Iter ℕ). s.rest.now) w.left-is ∙ first.1)
      | else-asks w ↦
          asks_none _ _ _ _ turn (omega arith) (sym here ∙ w.if-asks.false) (ap (λ (b : Bor ℕ). b.now) (rw w.next-is at c.unwrap_or-a.ensures)) (ap (λ (s : Iter ℕ). s.rest.now) w.left-is ∙ held.3)
    ] in
    (rw (along _ _ held.0) c.after-k.ensures, omega arith, search rules, on.1, texts_more _ _ _ _ turn (omega arith) _ _ _ held.4 on.0 held.0 (omega arith) (omega arith) c.put_line-wrote.ensures)
