-- `climbs` walks the chain that `climbs_by` says. Assumes nothing.
use Prim.Native.Nat.{◌+◌, ◌-◌}
use mathlib.Core.Path.{◌≡◌, sym, ◌∙◌}
use native.Mathlib.Omega.{arith}
use borrow.Author.Tests.{eq-eqb, ne_eqb}
use Rattle.bitset.specs.Sets.{has}
use Rattle.guard.specs.Private.Tested.{parent_by_key}
use Rattle.guard.proofs.Soundness.Climb.{climbs_root, climbs_on, climbs_end}
use Rattle.guard.proofs.scan.climbs.Goals as goal

pub returns-then-at-eq0 : goal.returns-then-at-eq0
returns-then-at-eq0 c = sym (c.loop.invariant.2 ∙ climbs_root _ _ (16 - c.loop.counter) _ (eq-eqb _ _ c.if-at-eq0.true))

pub returns-then-not-has : goal.returns-then-not-has
returns-then-not-has c =
    sym (c.loop.invariant.2 ∙ climbs_on _ _ (16 - c.loop.counter) _ (omega arith) (ne_eqb _ _ c.if-at-eq0.false) ∙ rw (sym c.has.ensures ∙ c.if-not-has.true))

pub loop-preserved : goal.loop-preserved
loop-preserved c =
    let less : 16 - c.loop.counter - 1 ≡ 16 - (c.loop.counter + 1) = omega arith in (
      omega arith,
      omega arith,
      rw less at (c.loop.invariant.2 ∙ rw (sym c.has.ensures ∙ c.if-not-has.false) at (climbs_on (parent_by_key c.args.keys.now) (has c.args.through) (16 - c.loop.counter) c.loop.at (omega arith) (ne_eqb _ _ c.if-at-eq0.false))),
    )

pub returns : goal.returns
returns c = let none : 16 - c.loop.counter ≡ 0 = omega arith in sym (rw none at c.loop.invariant.2 ∙ climbs_end _ _ _)
