-- `Set::with` is `with`: the remainder has a place in the width. Assumes nothing.
use Rattle.std.proofs.Common.{◌∙◌}
use Rattle.bitset.proofs.Words.{with_word}
use native.Mathlib.Nat.{mod-eq_of_lt}
use Rattle.bitset.proofs.Set.with.Goals as goal

pub returns : goal.returns
returns g c = let of = with_word _ _ _ _ _ c.WIDTH.ensures c.widened.ensures.same c.widened.ensures.fits g.met.Self.Set.bits in c.narrowed.ensures ∙ mod-eq_of_lt of.0 ∙ of.1
