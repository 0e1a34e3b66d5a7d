-- The number of a refusal is not 0, which stands for a request that is done. Assumes nothing.
use Prim.Native.Nat.{◌≤◌}
use native.Mathlib.Omega.{arith}
use Rattle.guard.specs.Private.Decision.{number_of}
use Rattle.guard.specs.declared.refusal.Refusal.{Refusal}

pub refused : (r : Refusal) → 1 ≤ number_of r
refused r = grind arith
