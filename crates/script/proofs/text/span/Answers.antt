-- `script::text::span` looks for the end of the first value. Assumes nothing.
use mathlib.Core.Path.{◌∙◌}
use native.Mathlib.Omega.{arith}
use Rattle.script.proofs.FirstValue.{span_space, span_line, span_more, span_end}
use Rattle.script.proofs.text.span.Goals as goal

pub loop-i-preserved-then-b-gt32 : goal.loop-i-preserved-then-b-gt32
loop-i-preserved-then-b-gt32 c = span_more _ _ c.loop-i.invariant (omega arith) (λ e. omega arith) (λ e. omega arith)

pub returns-then-b-eq32 : goal.returns-then-b-eq32
returns-then-b-eq32 c = span_space _ _ c.loop-i.invariant (omega arith) c.if-b-eq32.true

pub returns-then-b-eq10 : goal.returns-then-b-eq10
returns-then-b-eq10 c = span_line _ _ c.loop-i.invariant (omega arith) c.if-b-eq10.true

pub loop-i-preserved : goal.loop-i-preserved
loop-i-preserved c = span_more _ _ c.loop-i.invariant (omega arith) c.if-b-eq32.false c.if-b-eq10.false

pub returns : goal.returns
returns c = omega arith ∙ span_end _ _ c.loop-i.invariant (omega arith)
