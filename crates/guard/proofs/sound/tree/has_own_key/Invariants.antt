-- `guard::sound::tree::has_own_key` counts the entities of a level that have one key. Assumes nothing.
use Prim.Native.Nat.{ℕ, ◌+◌, ◌*◌, ◌/◌}
use mathlib.Core.Bool.{Bool}
use mathlib.Core.List.{List}
use mathlib.Core.Path.{◌≡◌}
use lib.Dec.{eqb}
use lib.ListN.{get_or}
use Rattle.guard.proofs.Soundness.Count.{count}
use Rattle.guard.proofs.sound.tree.has_own_key.Given as goal

-- the entity at m of the level of e has the key of e
abbrev pub same : List ℕ → ℕ → ℕ → Bool
same keys e m = eqb (get_or keys (e / 16 * 16 + m) 0) (get_or keys e 0)

abbrev pub invariant-loop-other : goal.invariant-loop-other
invariant-loop-other l = l.hits ≡ count l.other-index (same l.keys l.e)
