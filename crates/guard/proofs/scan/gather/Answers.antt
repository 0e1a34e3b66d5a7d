-- `gather` goes through the roles held and those below them, and joins what each of them gives. Assumes nothing.
use native.Mathlib.Nat.{mod-eq_of_lt}
use native.Mathlib.Omega.{arith}
use Rattle.bitset.specs.Sets.{join}
use Rattle.bitset.specs.Sets.Laws.{with_lt}
use Rattle.guard.proofs.Soundness.Members.{lowest}
use Rattle.guard.proofs.Descent.{walk_start, walk_on, walk_less, unions_none, unions_more, unions_all}
use Rattle.guard.proofs.scan.gather.Goals as goal

pub loop-left-init : goal.loop-left-init
loop-left-init c =
    let h = c.default-rights.ensures in
    (rw h.1.1.1.1 (walk_start _ _ (omega arith)), unions_none _ c.default-rights.result h.0 h.1.0 h.1.1.0 h.1.1.1.0 h.1.1.1.1)

pub loop-left-smaller : goal.loop-left-smaller
loop-left-smaller c =
    let (l, on) = lowest 16 c.loop-left.left (omega arith) c.loop-left.invariant.0.small in
    let at = c.loop-left in
    rw (c.with.ensures, mod-eq_of_lt l)
    (omega (arith, walk_less c.args.roles.now _ at.rights.roles at.left _ at.invariant.0 l on, at.invariant.0.little, with_lt 16 at.rights.roles _ at.invariant.0.little l))

pub loop-left-preserved : goal.loop-left-preserved
unfolding join
loop-left-preserved c =
    let (l, on) = lowest 16 c.loop-left.left (omega arith) c.loop-left.invariant.0.small in
    let at = c.loop-left in
    rw (c.minus-left.ensures, c.with.ensures, mod-eq_of_lt l)
    (walk_on c.args.roles.now _ at.rights.roles at.left _ at.invariant.0 l on (omega arith), unions_more _ at.rights _ l at.invariant.1)

pub returns : goal.returns
returns c = let at = c.loop-left in unions_all _ _ _ _ at.invariant.0 c.loop-left-test.false at.invariant.1
