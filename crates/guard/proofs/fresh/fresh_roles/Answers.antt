-- `fresh::fresh_roles` fills the roles number by number (Filling). Assumes nothing.
use borrow.Author.Rules.{rules}
use Rattle.guard.specs.Fresh.{fresh_role}
use Rattle.guard.proofs.Filling.{tabulated}
use Rattle.guard.proofs.fresh.fresh_roles.Goals as goal

pub returns : goal.returns
returns c = tabulated _ fresh_role _ _ (λ i y q k. search (rules, k)) 16 c.from_fn.ensures.items
