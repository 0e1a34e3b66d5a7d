-- `labels` makes that of each entity. Assumes nothing.
use lib.ListN.{get_or}
use borrow.Author.Rules.{rules}
use Rattle.guard.specs.Tables.{no_entity}
use Rattle.guard.specs.Private.Tested.{label_number}
use Rattle.guard.proofs.Filling.{made_at}
use Rattle.guard.proofs.sound.opens.labels.Goals as goal

pub returns : goal.returns
returns c e h =
    made_at _ (λ i. label_number (get_or c.args.entities i no_entity)) _ _ (λ i y q k. (search (rules, k), search (rules, k))) 64 c.from_fn.ensures.items e 0 h
