-- `of_level`: each of the four masks, member by member. Assumes nothing.
use Prim.Native.Nat.{ℕ, ◌*◌, ◌%◌, ◌^◌, ◌<◌}
use mathlib.Core.Path.{◌≡◌, refl}
use native.Mathlib.Omega.{arith}
use lib.Dec.{eqb}
use Rattle.bitset.specs.Tests.{all}
use Rattle.bitset.specs.Sets.{has}
use Rattle.guard.specs.Level.{role_level}
use Rattle.guard.proofs.Ranges.{span}
use Rattle.guard.proofs.Soundness.Tests.{agree_e}
use Rattle.guard.proofs.sound.rights.of_level.Goals as goal

pub returns : goal.returns
unfolding has all
returns c =
    span (λ n. (j : ℕ) → j < 16 → has ((15 * 2 ^ (4 * n)) % 65536) j ≡ eqb (role_level j) n) 0 4
    (agree_e 16 _ _ refl, (agree_e 16 _ _ refl, (agree_e 16 _ _ refl, (agree_e 16 _ _ refl, tt)))) c.args.level (omega arith) c.requires
