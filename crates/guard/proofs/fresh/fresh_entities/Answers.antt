-- `fresh::fresh_entities` fills the entities number by number (Filling). Assumes nothing.
use borrow.Author.Rules.{rules}
use Rattle.guard.specs.Fresh.{fresh_entity}
use Rattle.guard.proofs.Filling.{tabulated}
use Rattle.guard.proofs.fresh.fresh_entities.Goals as goal

pub returns : goal.returns
returns c = tabulated _ fresh_entity _ _ (λ i y q k. search (rules, k)) 64 c.from_fn.ensures.items
