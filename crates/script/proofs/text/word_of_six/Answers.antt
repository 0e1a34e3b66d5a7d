-- `script::text::word_of_six` finds the place among the words by the key. Assumes nothing.
use lib.Dec.{leb}
use borrow.Author.Tests.{le-leb}
use Rattle.script.specs.Private.ShortTexts.{five_end}
use Rattle.script.proofs.WordAtFront.{word_at_key, word_none}
use Rattle.script.proofs.text.word_of_six.Goals as goal

pub returns-in-400700709238132 : goal.returns-in-400700709238132
returns-in-400700709238132 c = word_at_key c.in-400700709238132.is

pub returns-in-390817955017829 : goal.returns-in-390817955017829
returns-in-390817955017829 c = word_at_key c.in-390817955017829.is

pub returns-in-391861749773413 : goal.returns-in-391861749773413
returns-in-391861749773413 c = word_at_key c.in-391861749773413.is

pub returns-in-407254945852773 : goal.returns-in-407254945852773
returns-in-407254945852773 c = word_at_key c.in-407254945852773.is

pub returns-in-407255080987493 : goal.returns-in-407255080987493
returns-in-407255080987493 c = word_at_key c.in-407255080987493.is

pub returns-in-410592102413172 : goal.returns-in-410592102413172
returns-in-410592102413172 c = word_at_key c.in-410592102413172.is

pub returns-in-410592118664037 : goal.returns-in-410592118664037
returns-in-410592118664037 c = word_at_key c.in-410592118664037.is

pub returns-in-410592069249390 : goal.returns-in-410592069249390
returns-in-410592069249390 c = word_at_key c.in-410592069249390.is

pub returns-in_default : goal.returns-in_default
returns-in_default c = word_none (λ n. leb five_end n) (le-leb _ _ c.requires) c.in_default.in_default-own.rest
