-- `Set::without` is `without`: past the width there is no member to take. Assumes nothing.
use Rattle.std.proofs.Common.{arith, sym, ap, ◌∙◌}
use Rattle.bitset.specs.Sets.{without}
use Rattle.bitset.proofs.Words.{without_word, without_past}
use native.Mathlib.Nat.{mod-eq_of_lt}
use Rattle.bitset.proofs.Set.without.Goals as goal

pub returns-then-WIDTH-i : goal.returns-then-WIDTH-i
returns-then-WIDTH-i g c =
    sym (ap (λ s. without s c.args.i) (sym c.widened-set.ensures.same)
    ∙ without_past g.Self.Set.WIDTH _ _ c.widened-set.ensures.fits (omega (arith, c.WIDTH.ensures, c.if-WIDTH-i.true))
    ∙ c.widened-set.ensures.same)

pub returns : goal.returns
returns g c = let of = without_word _ _ _ _ c.widened-set.ensures.same c.widened-set.ensures.fits c.widened-set.type_inv (omega (arith, c.WIDTH.ensures, c.if-WIDTH-i.false, g.met.Self.Set.bits.1)) in c.narrowed.ensures ∙ mod-eq_of_lt of.0 ∙ of.1
