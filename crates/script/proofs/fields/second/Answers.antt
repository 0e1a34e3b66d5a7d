-- `script::fields::second` meets its contract: where the fields so far were numbers (`took`), the next one is a number too or a
-- fault (`faulty`). Assumes nothing.
use mathlib.Core.List.{[]}
use Rattle.script.specs.Line.{these, joined}
use Rattle.script.specs.Private.Rows.{front}
use Rattle.script.proofs.FieldsTaken.{took_none, took, faulty, asks_bad, asks_user, asks_request}
use Rattle.script.proofs.fields.second.Goals as goal

pub returns-in_default : goal.returns-in_default
returns-in_default c = asks_bad _ _ _ (faulty took_none c.field.ensures c.in_default.is 6 _)

pub returns-in_default-field : goal.returns-in_default-field
returns-in_default-field c = asks_bad _ _ _ (faulty (took took_none c.field.ensures c.in-Some.is) c.field-2.ensures c.in_default-field.is 5 _)

pub returns-in_default-field-2 : goal.returns-in_default-field-2
returns-in_default-field-2 c = asks_bad _ _ _ (faulty (took (took took_none c.field.ensures c.in-Some.is) c.field-2.ensures c.in-Some-field.is) c.field-3.ensures c.in_default-field-2.is 4 _)

pub returns-in_default-field-3 : goal.returns-in_default-field-3
returns-in_default-field-3 c = asks_bad _ _ _ (faulty (took (took (took took_none c.field.ensures c.in-Some.is) c.field-2.ensures c.in-Some-field.is) c.field-3.ensures c.in-Some-field-2.is) c.field-4.ensures c.in_default-field-3.is 3 _)

pub returns-in_default-field-4 : goal.returns-in_default-field-4
returns-in_default-field-4 c = asks_bad _ _ _ (faulty (took (took (took (took took_none c.field.ensures c.in-Some.is) c.field-2.ensures c.in-Some-field.is) c.field-3.ensures c.in-Some-field-2.is) c.field-4.ensures c.in-Some-field-3.is) c.field-5.ensures c.in_default-field-4.is 2 _)

pub returns-in_default-field-5 : goal.returns-in_default-field-5
returns-in_default-field-5 c = asks_bad _ _ _ (faulty (took (took (took (took (took took_none c.field.ensures c.in-Some.is) c.field-2.ensures c.in-Some-field.is) c.field-3.ensures c.in-Some-field-2.is) c.field-4.ensures c.in-Some-field-3.is) c.field-5.ensures c.in-Some-field-4.is) c.field-6.ensures c.in_default-field-5.is 1 _)

pub returns-in_default-field-6 : goal.returns-in_default-field-6
returns-in_default-field-6 c = asks_bad _ _ _ (faulty (took (took (took (took (took (took took_none c.field.ensures c.in-Some.is) c.field-2.ensures c.in-Some-field.is) c.field-3.ensures c.in-Some-field-2.is) c.field-4.ensures c.in-Some-field-3.is) c.field-5.ensures c.in-Some-field-4.is) c.field-6.ensures c.in-Some-field-5.is) c.field-7.ensures c.in_default-field-6.is 0 _)

pub returns-then-word-eq-USER : goal.returns-then-word-eq-USER
unfolding front joined
returns-then-word-eq-USER c = asks_user _ _ _ _ _ _ _ _ _ _ ((took (took (took (took (took (took (took took_none c.field.ensures c.in-Some.is) c.field-2.ensures c.in-Some-field.is) c.field-3.ensures c.in-Some-field-2.is) c.field-4.ensures c.in-Some-field-3.is) c.field-5.ensures c.in-Some-field-4.is) c.field-6.ensures c.in-Some-field-5.is) c.field-7.ensures c.in-Some-field-6.is).so (these [])) c.if-word-eq-USER.true

pub returns : goal.returns
unfolding front joined
returns c = asks_request _ _ _ _ _ _ _ _ _ _ ((took (took (took (took (took (took (took took_none c.field.ensures c.in-Some.is) c.field-2.ensures c.in-Some-field.is) c.field-3.ensures c.in-Some-field-2.is) c.field-4.ensures c.in-Some-field-3.is) c.field-5.ensures c.in-Some-field-4.is) c.field-6.ensures c.in-Some-field-5.is) c.field-7.ensures c.in-Some-field-6.is).so (these [])) c.if-word-eq-USER.false
