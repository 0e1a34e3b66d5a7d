-- `is_dash` compares with a dash. Assumes nothing.
use Rattle.script.proofs.FoundValue.{dash_equal}
use Rattle.script.proofs.row.is_dash.Goals as goal

pub returns : goal.returns
returns c = rw (c.eq.ensures, c.as_slice.ensures) (dash_equal c.args.v.now)
