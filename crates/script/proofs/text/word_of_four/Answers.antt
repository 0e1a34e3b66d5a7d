-- `script::text::word_of_four` finds the place among the words by the key. Assumes nothing.
use lib.Dec.{ltb}
use borrow.Author.Tests.{lt-ltb}
use Rattle.script.specs.Private.ShortTexts.{four_end}
use Rattle.script.proofs.WordAtFront.{word_at_key, word_none}
use Rattle.script.proofs.text.word_of_four.Goals as goal

pub returns-in-6265464178 : goal.returns-in-6265464178
returns-in-6265464178 c = word_at_key c.in-6265464178.is

pub returns-in-6247508837 : goal.returns-in-6247508837
returns-in-6247508837 c = word_at_key c.in-6247508837.is

pub returns-in-5980188528 : goal.returns-in-5980188528
returns-in-5980188528 c = word_at_key c.in-5980188528.is

pub returns-in-6113817460 : goal.returns-in-6113817460
returns-in-6113817460 c = word_at_key c.in-6113817460.is

pub returns-in-6130068325 : goal.returns-in-6130068325
returns-in-6130068325 c = word_at_key c.in-6130068325.is

pub returns-in-6080653678 : goal.returns-in-6080653678
returns-in-6080653678 c = word_at_key c.in-6080653678.is

pub returns-in_default : goal.returns-in_default
returns-in_default c = word_none (λ n. ltb n four_end) (lt-ltb _ _ c.requires) c.in_default.in_default-own.rest
