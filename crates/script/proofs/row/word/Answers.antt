-- `script::row::word` meets its contract. Assumes nothing.
use mathlib.Core.Path.{sym, ◌∙◌}
use Rattle.script.proofs.FoundValue.{word_dash, word_place, word_other}
use Rattle.script.proofs.row.word.Goals as goal

pub returns-then-is_dash : goal.returns-then-is_dash
returns-then-is_dash c = word_dash _ (sym c.is_dash.ensures ∙ c.if-is_dash.true)

pub returns-in-Some : goal.returns-in-Some
returns-in-Some c = word_place _ (sym c.is_dash.ensures ∙ c.if-is_dash.false) (sym c.in-Some.is ∙ c.word_at.ensures)

pub returns-in-None : goal.returns-in-None
returns-in-None c = word_other _ (sym c.is_dash.ensures ∙ c.if-is_dash.false) (sym c.in-None.is ∙ c.word_at.ensures)
