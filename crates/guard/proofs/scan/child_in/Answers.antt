-- `child_in` asks each entity of the level for its parent. Assumes nothing.
use Prim.Native.Nat.{ℕ, ◌+◌, ◌*◌, ◌/◌}
use mathlib.Core.Path.{◌∙◌}
use borrow.Author.Rules.{rules}
use native.Mathlib.Omega.{arith}
use lib.Dec.{eqb}
use Rattle.std.specs.List.{slice_range}
use Rattle.std.proofs.Common.{tests}
use Rattle.std.proofs.lemmas.Iterator.{YieldsList-from_slice}
use Rattle.std.proofs.lemmas.Iterator.Search.{any_from_yields_List}
use Rattle.guard.specs.Private.Scan.{child_by}
use Rattle.guard.proofs.Chains.{some_of_range}
use Rattle.guard.proofs.scan.child_in.Goals as goal

pub returns : goal.returns
unfolding child_by
returns c =
    let first = c.args.p / 16 * 16 in
    any_from_yields_List (λ (key : ℕ). eqb (key / 65536) c.args.p) _ _ _ c.any.ensures.ran (YieldsList-from_slice (slice_range c.args.keys.now first (first + 16)) (cc)) (λ x b q k. search (rules, tests))
    ∙ some_of_range _ c.args.keys.now first 16 (omega arith)
