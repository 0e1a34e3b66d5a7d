-- `name_in` asks each entity of the level for its key. Assumes nothing.
use Prim.Native.Nat.{ℕ, ◌+◌, ◌*◌, ◌/◌, ◌%◌}
use mathlib.Core.Path.{◌∙◌}
use native.Mathlib.Omega.{arith}
use lib.Dec.{eqb}
use Rattle.guard.specs.Private.Scan.{name_by}
use Rattle.guard.proofs.Chains.{some_of_range}
use Rattle.guard.proofs.scan.name_in.Goals as goal

pub returns : goal.returns
unfolding name_by
returns c =
    c.contains.ensures.value
    ∙ some_of_range (λ (key : ℕ). eqb key (c.args.p * 65536 + c.args.name % 65536)) c.args.keys.now (c.args.p / 16 * 16) 16 (omega arith)
