-- `script::text::word_from` meets its contract: the word by the key of four bytes, or of one or two more. Assumes nothing.
use mathlib.Core.Path.{sym, ◌∙◌}
use native.Mathlib.Omega.{arith}
use lib.ListN.{length-drop}
use Rattle.script.proofs.WordAtFront.{key_next, begins}
use Rattle.script.proofs.text.word_from.Goals as goal

pub returns-then-b-eq32 : goal.returns-then-b-eq32
returns-then-b-eq32 c =
    begins c.args.s.now c.args.from 5 _ _ _ (omega arith) (key_next c.args.s.now c.args.from 4 _ _ (omega arith) (omega (arith, length-drop c.args.from c.args.s.now)) c.key4-k4.ensures.0 c.byte-a.ensures.0) c.byte-b.ensures.0 c.if-b-eq32.true (sym c.in_ok-word-2.was ∙ c.word_of_five.ensures)

pub returns-then-c-eq32 : goal.returns-then-c-eq32
returns-then-c-eq32 c =
    begins c.args.s.now c.args.from 6 _ _ _ (omega arith) (key_next c.args.s.now c.args.from 5 _ _ (omega arith) (omega (arith, length-drop c.args.from c.args.s.now)) (key_next c.args.s.now c.args.from 4 _ _ (omega arith) (omega (arith, length-drop c.args.from c.args.s.now)) c.key4-k4.ensures.0 c.byte-a.ensures.0) c.byte-b.ensures.0) c.byte-c.ensures.0 c.if-c-eq32.true (sym c.in_ok-word-3.was ∙ c.word_of_six.ensures)
