-- `script::row::value_at` meets its contract: what stands at the front is told by its first bytes. Assumes nothing.
use Rattle.script.proofs.FoundValue.{found_one, found_two, found_last, found_word}
use Rattle.script.proofs.row.value_at.Goals as goal

pub returns-in-Some : goal.returns-in-Some
returns-in-Some c =
    found_word c.args.i c.args.from _ _ c.args.s.now c.if-i-eq0.true c.if-from-s.true (λ k. (c.type_inv.s k).fits) (rw c.in-Some.is at c.word_from.ensures)

pub returns-then-b-eq32 : goal.returns-then-b-eq32
returns-then-b-eq32 c =
    found_one c.args.i c.args.from _ _ c.args.s.now c.if-from-s-2.true c.byte-a.ensures.0 c.byte-b.ensures.0 _ c.if-i-eq0.false (c.is_digit.ensures c.if-is_digit.true) c.append-n.ensures c.if-b-eq32.true

pub returns-then-s-from-eq32 : goal.returns-then-s-from-eq32
returns-then-s-from-eq32 c =
    found_two c.args.i c.args.from _ _ c.args.s.now c.if-from-s-2.true c.byte-a.ensures.0 c.byte-b.ensures.0 _ c.if-i-eq0.false (c.is_digit.ensures c.if-is_digit.true) c.append-n.ensures _ (c.is_digit-then-is_digit.ensures c.if-is_digit-2.true) c.append-n-then-s-from-eq32.ensures c.if-s-from-eq32.true

pub returns-then-pair-eq2605 : goal.returns-then-pair-eq2605
returns-then-pair-eq2605 c =
    found_last c.args.i c.args.from _ c.args.s.now c.if-from-s-2.true c.pair.ensures.0 c.pair.ensures.1 c.if-pair-eq2605.true
