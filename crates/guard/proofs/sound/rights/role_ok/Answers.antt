-- `guard::sound::rights::role_ok` is the test of one role. Assumes nothing.
use native.Mathlib.Omega.{arith}
use Rattle.bitset.specs.Sets.{join}
use Rattle.guard.proofs.Soundness.Cases.{rights_small, role_out, role_last}
use Rattle.guard.proofs.sound.rights.role_ok.Goals as goal

pub returns-then-p-r : goal.returns-then-p-r
returns-then-p-r c = let a = c.args in role_out a.set a.r a.p c.if-p-r.true

pub returns : goal.returns
unfolding join
returns c =
    let a = c.args in
    let small = rights_small a.p (omega arith) (omega arith) (omega arith) (omega arith) in
    role_last a.set a.r a.p _ (omega arith) (omega arith) small c.if-p-r.false (rw c.bound.ensures at c.contains.ensures)
