-- `Set::has` is `has`: past 64 bits there is no member. Assumes nothing.
use Rattle.std.proofs.Common.{arith, sym, ◌∙◌, ap}
use Rattle.bitset.specs.Sets.{has}
use Rattle.bitset.specs.Sets.Laws.{has_past}
use Rattle.bitset.proofs.Words.{has_code}
use Rattle.bitset.proofs.Set.has.Goals as goal

pub returns-then-i-ge-BITS : goal.returns-then-i-ge-BITS
returns-then-i-ge-BITS g c =
    sym (has_past g.Self.Set.WIDTH _ _ c.widened-set.ensures.fits (omega (arith, g.met.Self.Set.bits.1, c.if-i-ge-BITS.true)))
    ∙ ap (λ s. has s c.args.i) c.widened-set.ensures.same

pub returns : goal.returns
returns g c = has_code _ _ ∙ ap (λ s. has s c.args.i) c.widened-set.ensures.same
