-- `Set::contains` is `contains`, by its definition. Assumes nothing.
use Rattle.std.proofs.Common.{refl}
use Rattle.bitset.specs.Sets.{contains}
use Rattle.bitset.proofs.Set.contains.Goals as goal

pub returns : goal.returns
unfolding contains
returns g c = rw (c.widened.ensures.same, c.widened-part.ensures.same) refl
