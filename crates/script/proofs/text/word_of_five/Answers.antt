-- `script::text::word_of_five` finds the place among the words by the key. Assumes nothing.
use mathlib.Core.Bool.{◌&&◌}
use lib.Dec.{leb, ltb}
use borrow.Author.Tests.{le-leb, lt-ltb}
use Rattle.script.specs.Private.ShortTexts.{four_end, five_end}
use Rattle.script.proofs.WordAtFront.{word_at_key, word_none}
use Rattle.script.proofs.text.word_of_five.Goals as goal

pub returns-in-1565237143918 : goal.returns-in-1565237143918
returns-in-1565237143918 c = word_at_key c.in-1565237143918.is

pub returns-in-1578138693234 : goal.returns-in-1578138693234
returns-in-1578138693234 c = word_at_key c.in-1578138693234.is

pub returns-in-1578138693239 : goal.returns-in-1578138693239
returns-in-1578138693239 c = word_at_key c.in-1578138693239.is

pub returns-in-1526532633445 : goal.returns-in-1526532633445
returns-in-1526532633445 c = word_at_key c.in-1526532633445.is

pub returns-in-1543812247156 : goal.returns-in-1543812247156
returns-in-1543812247156 c = word_at_key c.in-1543812247156.is

pub returns-in-1595184083557 : goal.returns-in-1595184083557
returns-in-1595184083557 c = word_at_key c.in-1595184083557.is

pub returns-in_default : goal.returns-in_default
returns-in_default c = word_none (λ n. leb four_end n && ltb n five_end) (rw (le-leb _ _ c.requires.0, lt-ltb _ _ c.requires.1)) c.in_default.in_default-own.rest
