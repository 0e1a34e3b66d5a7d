-- `script::line::asked` meets its contract: what a line asks is told by its row. Assumes nothing.
use mathlib.Core.Path.{◌∙◌}
use Rattle.script.proofs.LineAsked.{read_none, read_over, read_unknown, read_halves, asks_by, asks_fault}
use Rattle.script.proofs.line.asked.Goals as goal

pub returns-in_err-given : goal.returns-in_err-given
returns-in_err-given c = λ h at l o d. c.from_residual.ensures ∙ read_none o d c.in_err-given.was

pub returns-then-row-gt-LONGEST : goal.returns-then-row-gt-LONGEST
returns-then-row-gt-LONGEST c = λ h at l o d. read_over o d c.if-row-gt-LONGEST.true

pub returns-in_err-uses : goal.returns-in_err-uses
returns-in_err-uses c =
    λ h at l o d. c.from_residual-in_err-uses.ensures ∙ read_unknown o d c.in_ok-given.was c.if-row-gt-LONGEST.false c.in_err-uses.ensures

pub returns-in_err-six : goal.returns-in_err-six
returns-in_err-six c =
    let (word, table) = c.in_ok-uses.ensures in
    λ h at l o d. c.from_residual-in_err-six.ensures ∙ asks_fault _ _ _ c.in_err-six.was ∙ read_halves o d c.in_ok-given.was c.if-row-gt-LONGEST.false _ _ word table c.first.ensures

pub returns : goal.returns
returns c =
    let (word, table) = c.in_ok-uses.ensures in
    λ h at l o d. c.second.ensures ∙ asks_by _ _ _ _ c.in_ok-six.was ∙ read_halves o d c.in_ok-given.was c.if-row-gt-LONGEST.false _ _ word table c.first.ensures
