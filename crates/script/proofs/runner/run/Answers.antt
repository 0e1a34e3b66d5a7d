-- `run`: the heading, where it is to come, and the loop over the piece. Assumes nothing.
use Rattle.script.proofs.PieceLoop.{heading_wrote, headed_done}
use borrow.Author.Rules.{rules}
use Rattle.script.proofs.runner.run.Goals as goal

pub slice_bounds-work-count : goal.slice_bounds-work-count
slice_bounds-work-count c = let w = heading_wrote c.put_heading-heading.ensures in search rules

pub slice_bounds-work-start : goal.slice_bounds-work-start
slice_bounds-work-start c = let w = heading_wrote c.put_heading-heading.ensures in search rules

pub returns-in-Heading : goal.returns-in-Heading
returns-in-Heading c =
    headed_done c.in-Heading.is c.if-out-lt-LINE_ROOM.false c.put_heading-heading.auto.out c.put_heading-heading.ensures c.work-ran.auto.out c.work-ran.ensures
