-- `gather` goes through the roles held and those below them, and joins what each of them gives. Assumes nothing.
use Prim.Native.Nat.{◌-◌}
use Rattle.guard.proofs.Descent.{Walked, Unions}
use Rattle.guard.proofs.scan.gather.Given as goal

abbrev pub invariant-loop-left : goal.invariant-loop-left
invariant-loop-left l = Walked l.roles l.held l.rights.roles l.left × Unions l.roles l.rights

abbrev pub decreases-loop-left : goal.decreases-loop-left
decreases-loop-left l = 65536 - l.rights.roles
