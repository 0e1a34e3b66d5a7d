-- `after` is the role after a grant, a revoke, or an edit of its list or its life. Assumes nothing.
use Rattle.guard.proofs.Ranges.{in_grant, in_revoke}
use Rattle.guard.proofs.roles.after.Goals as goal

pub granted-requires : goal.granted-requires
granted-requires c = let r = in_grant _ c.requires c.in-10.is in (r.3, r.2)

pub granted-requires-in-11 : goal.granted-requires-in-11
granted-requires-in-11 c = let r = in_revoke _ c.requires c.in-11.is in (r.3, r.2)
