-- `put_answers` writes one line after another. Assumes nothing.
use Prim.Native.Nat.{◌+◌, ◌*◌, ◌≤◌}
use mathlib.Core.Path.{◌≡◌}
use lib.ListN.{length, take, drop}
use Rattle.script.specs.Private.Slices.{Put}
use Rattle.script.specs.Private.LineBatch.{asked, texts}
use Rattle.script.proofs.batch.put_answers.Given as goal

abbrev pub invariant-loop-asks : goal.invariant-loop-asks
invariant-loop-asks l = (l.k.n ≡ l.n + l.asks-index) × (l.wrote ≤ 12 * l.asks-index) × (length l.out ≡ length l.initial.out) × (l.left.rest.now ≡ drop (asked (take l.asks-index l.marks)) l.answers) × Put l.initial.out 0 (texts l.n (take l.asks-index l.marks) l.answers) l.out l.wrote
