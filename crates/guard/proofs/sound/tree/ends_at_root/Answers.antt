-- `guard::sound::tree::ends_at_root` walks the chain that `climbs` says. Assumes nothing.
use native.Mathlib.Omega.{arith}
use mathlib.Core.Path.{◌≡◌, sym, ◌∙◌}
use Prim.Native.Nat.{◌-◌, ◌+◌}
use borrow.Author.Tests.{eq-eqb, ne_eqb}
use Rattle.guard.proofs.Soundness.Climb.{climbs_root, climbs_on, climbs_end}
use Rattle.guard.proofs.sound.tree.ends_at_root.Goals as goal

pub returns-then-at-eq0 : goal.returns-then-at-eq0
returns-then-at-eq0 c = sym (c.loop.invariant.2 ∙ climbs_root _ _ (16 - c.loop.counter) _ (eq-eqb _ _ c.if-at-eq0.true))

pub loop-preserved : goal.loop-preserved
loop-preserved c =
    let less : 16 - c.loop.counter - 1 ≡ 16 - (c.loop.counter + 1) = omega arith in
    (omega arith, omega arith, rw less at (c.loop.invariant.2 ∙ climbs_on _ _ (16 - c.loop.counter) _ (omega arith) (ne_eqb _ _ c.if-at-eq0.false)))

pub returns : goal.returns
returns c = let none : 16 - c.loop.counter ≡ 0 = omega arith in sym (rw none at c.loop.invariant.2 ∙ climbs_end _ _ _)
