-- `tied`: unmake looks for a junior or a senior, join for the senior at or below the junior. Assumes nothing.
use mathlib.Core.Path.{◌∙◌}
use native.Mathlib.Nat.{mod-eq_of_lt}
use Rattle.guard.specs.Private.Scan.{tied_by}
use Rattle.guard.proofs.Descent.{met_one}
use Rattle.guard.proofs.scan.tied.Goals as goal

pub returns-in-17 : goal.returns-in-17
unfolding tied_by
returns-in-17 c =
    c.has.ensures
    ∙ c.gather.ensures.met _ c.requires.0
    ∙ rw (c.with.ensures, mod-eq_of_lt c.requires.1, c.in-17.is) (met_one c.args.roles.now c.args.j c.requires.1 c.args.r)
