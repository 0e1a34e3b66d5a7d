-- `climbs` walks the chain that `climbs_by` says. Assumes nothing.
use Prim.Native.Nat.{◌-◌, ◌≤◌, ◌<◌}
use mathlib.Core.Path.{◌≡◌}
use Rattle.bitset.specs.Sets.{has}
use Rattle.guard.specs.Chain.{climbs}
use Rattle.guard.specs.Private.Tested.{parent_by_key}
use Rattle.guard.specs.Private.Scan.{climbs_by}
use Rattle.guard.proofs.scan.climbs.Given as goal

abbrev pub invariant-loop : goal.invariant-loop
invariant-loop l =
    (l.at < 64) × (l.counter ≤ 16) × (climbs_by l.keys l.through l.e ≡ climbs (parent_by_key l.keys) (has l.through) (16 - l.counter) l.at)
