-- `guard::sound::tree::ends_at_root` walks the chain that `climbs` says. Assumes nothing.
use Prim.Native.Nat.{◌-◌, ◌≤◌, ◌<◌}
use mathlib.Core.Path.{◌≡◌}
use Rattle.guard.specs.Private.Tested.{ends, parent_by_key}
use Rattle.guard.proofs.sound.tree.ends_at_root.Given as goal

abbrev pub invariant-loop : goal.invariant-loop
invariant-loop l =
    (l.at < 64) × (l.counter ≤ 16) × (ends (parent_by_key l.keys) 16 l.e ≡ ends (parent_by_key l.keys) (16 - l.counter) l.at)
