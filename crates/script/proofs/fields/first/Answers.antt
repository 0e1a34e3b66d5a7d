-- `script::fields::first` meets its contract: where the fields so far were numbers (`took`), the next one is a number too or a
-- fault (`faulty`). Assumes nothing.
use Rattle.script.specs.Private.Rows.{ahead}
use Rattle.script.proofs.FieldsTaken.{took_none, took, faulty}
use Rattle.script.proofs.fields.first.Goals as goal

pub returns-in_default : goal.returns-in_default
unfolding ahead
returns-in_default c = faulty took_none c.field.ensures c.in_default.is 5

pub returns-in_default-field : goal.returns-in_default-field
unfolding ahead
returns-in_default-field c = faulty (took took_none c.field.ensures c.in-Some.is) c.field-2.ensures c.in_default-field.is 4

pub returns-in_default-field-2 : goal.returns-in_default-field-2
unfolding ahead
returns-in_default-field-2 c = faulty (took (took took_none c.field.ensures c.in-Some.is) c.field-2.ensures c.in-Some-field.is) c.field-3.ensures c.in_default-field-2.is 3

pub returns-in_default-field-3 : goal.returns-in_default-field-3
unfolding ahead
returns-in_default-field-3 c = faulty (took (took (took took_none c.field.ensures c.in-Some.is) c.field-2.ensures c.in-Some-field.is) c.field-3.ensures c.in-Some-field-2.is) c.field-4.ensures c.in_default-field-3.is 2

pub returns-in_default-field-4 : goal.returns-in_default-field-4
unfolding ahead
returns-in_default-field-4 c = faulty (took (took (took (took took_none c.field.ensures c.in-Some.is) c.field-2.ensures c.in-Some-field.is) c.field-3.ensures c.in-Some-field-2.is) c.field-4.ensures c.in-Some-field-3.is) c.field-5.ensures c.in_default-field-4.is 1

pub returns-in_default-field-5 : goal.returns-in_default-field-5
unfolding ahead
returns-in_default-field-5 c = faulty (took (took (took (took (took took_none c.field.ensures c.in-Some.is) c.field-2.ensures c.in-Some-field.is) c.field-3.ensures c.in-Some-field-2.is) c.field-4.ensures c.in-Some-field-3.is) c.field-5.ensures c.in-Some-field-4.is) c.field-6.ensures c.in_default-field-5.is 0

pub returns : goal.returns
unfolding ahead
returns c = (took (took (took (took (took (took took_none c.field.ensures c.in-Some.is) c.field-2.ensures c.in-Some-field.is) c.field-3.ensures c.in-Some-field-2.is) c.field-4.ensures c.in-Some-field-3.is) c.field-5.ensures c.in-Some-field-4.is) c.field-6.ensures c.in-Some-field-5.is).so
