-- `Set::minus` is `minus`: the complement of 64 bits leaves what `other` has not, and a part of the set fits. Assumes nothing.
use Rattle.std.proofs.Common.{◌∙◌}
use Rattle.bitset.proofs.Words.{minus_word}
use native.Mathlib.Nat.{mod-eq_of_lt}
use Rattle.bitset.proofs.Set.minus.Goals as goal

pub returns : goal.returns
returns g c = let of = minus_word g.Self.Set.WIDTH _ _ _ _ c.widened.ensures.same c.widened-2.ensures.same c.widened.ensures.fits c.widened.type_inv c.widened-2.type_inv in c.narrowed.ensures ∙ mod-eq_of_lt of.0 ∙ of.1
