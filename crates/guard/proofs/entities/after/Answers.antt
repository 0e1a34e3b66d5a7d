-- `after` is the entity that a create makes, a delete leaves, a share marks or a rename names. Assumes nothing.
use native.Mathlib.Omega.{arith}
use Rattle.guard.proofs.Ranges.{is_nine, in_create, in_rename, in_share}
use Rattle.guard.proofs.entities.after.Goals as goal

pub made-requires : goal.made-requires
made-requires c = let r = in_create _ c.requires.1 c.in-7.is in (r.kind, r.parent, r.name, r.grade, r.cats)

pub marked-requires : goal.marked-requires
marked-requires c = (in_share _ c.requires.1 c.in-16.is).2

pub renamed-requires : goal.renamed-requires
renamed-requires c =
    let pre = c.requires in
    (in_rename _ pre.1 (is_nine _ pre.0 (omega arith) (omega arith) (omega arith))).3
