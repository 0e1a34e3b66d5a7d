-- `guard::sound::opens::from_level`: each of the four masks, member by member. Assumes nothing.
use Prim.Native.Nat.{ℕ, ◌*◌, ◌%◌, ◌^◌, ◌<◌}
use mathlib.Core.Path.{◌≡◌, refl}
use lib.Dec.{leb}
use Rattle.bitset.specs.Tests.{all}
use Rattle.bitset.specs.Sets.{has}
use Rattle.guard.specs.Level.{entity_level}
use Rattle.guard.proofs.Soundness.Tests.{agree_e, of_four}
use Rattle.guard.proofs.sound.opens.from_level.Goals as goal

pub returns : goal.returns
unfolding has all
returns c =
    of_four (λ n. (e : ℕ) → e < 64 → has ((18446744073709551615 * 2 ^ (16 * n)) % 18446744073709551616) e ≡ leb n (entity_level e))
    (agree_e 64 _ _ refl) (agree_e 64 _ _ refl) (agree_e 64 _ _ refl) (agree_e 64 _ _ refl) c.args.level c.requires
