-- `script::fields::field` meets its contract: each answer is what the definition takes a field as. Assumes nothing.
use Rattle.script.proofs.FieldsTaken.{field_missing, field_extra, field_number}
use Rattle.script.proofs.fields.field.Goals as goal

pub returns-then-used-number : goal.returns-then-used-number
returns-then-used-number c = field_missing _ _ _ c.has-used.ensures c.has-number.ensures c.if-used-number.true

pub returns-then-number-used : goal.returns-then-number-used
returns-then-number-used c = field_extra _ _ _ c.has-used.ensures c.has-number.ensures c.if-number-used.true

pub returns : goal.returns
returns c = field_number _ _ _ c.has-used.ensures c.has-number.ensures c.if-used-number.false c.if-number-used.false
