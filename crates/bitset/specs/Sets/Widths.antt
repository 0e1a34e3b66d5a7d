-- The widths that sets have: each has a place, and at most 64. Assumes nothing.
use Rattle.std.proofs.Common.{arith, ◌<◌, ◌≤◌}

pub bits_8 : (0 < 8) × (8 ≤ 64)
bits_8 = (omega arith, omega arith)

pub bits_16 : (0 < 16) × (16 ≤ 64)
bits_16 = (omega arith, omega arith)

pub bits_64 : (0 < 64) × (64 ≤ 64)
bits_64 = (omega arith, omega arith)
