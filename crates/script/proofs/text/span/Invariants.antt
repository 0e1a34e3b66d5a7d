-- `script::text::span` looks for the end of the first value. Assumes nothing.
use Prim.Native.Nat.{◌+◌}
use mathlib.Core.Path.{◌≡◌}
use lib.ListN.{length, drop}
use Rattle.script.specs.Private.Slices.{leading}
use Rattle.script.proofs.text.span.Given as goal

abbrev pub invariant-loop-i : goal.invariant-loop-i
invariant-loop-i l = length (leading l.s) ≡ l.i + length (leading (drop l.i l.s))
