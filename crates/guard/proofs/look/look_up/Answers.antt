-- `look_up` finds nothing where a number is out of range, which is 2 by every rule. Assumes nothing.
use mathlib.Core.Path.{sym, ◌∙◌}
use Rattle.guard.proofs.Answers.{out_of_range}
use Rattle.guard.proofs.look.look_up.Goals as goal

pub returns-then-not-fits-clause-refused : goal.returns-then-not-fits-clause-refused
returns-then-not-fits-clause-refused c none t = sym (out_of_range t _ (sym c.fits.ensures ∙ c.if-not-fits.true))
