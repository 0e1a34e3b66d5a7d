-- `gives`: the role's own set has the entity, or one of a role below it. Assumes nothing.
use mathlib.Core.Path.{sym, ◌∙◌}
use native.Mathlib.Nat.{mod-eq_of_lt}
use Rattle.guard.proofs.Descent.{given_one, untied_by}
use Rattle.guard.proofs.giver.gives.Goals as goal

pub returns-then-role-eq0 : goal.returns-then-role-eq0
returns-then-role-eq0 c =
    sym (untied_by c.args.roles.now c.args.r c.requires.0 c.if-role-eq0.true c.args.right c.args.e ∙ rw (← c.on.ensures) (sym c.has.ensures ∙ c.if-has.false))

pub returns : goal.returns
returns c =
    c.has-2.ensures
    ∙ rw c.on-2.ensures
    (c.gather-rights.ensures.sets c.args.right c.args.e
    ∙ rw (c.with.ensures, mod-eq_of_lt c.requires.0) (given_one c.args.roles.now c.args.r c.requires.0 c.args.right c.args.e))
