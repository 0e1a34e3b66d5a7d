-- `script::text::key4` meets its contract: the key of four bytes. Assumes nothing.
use borrow.Author.Rules.{rules}
use Rattle.script.proofs.WordAtFront.{key_four}
use Rattle.script.proofs.text.key4.Goals as goal

pub returns : goal.returns
returns c =
    (key_four _ _ _ _ _ _ c.requires c.byte-a.ensures.0 c.byte-b.ensures.0 c.byte-c.ensures.0 c.byte-d.ensures.0, search rules, search rules)
