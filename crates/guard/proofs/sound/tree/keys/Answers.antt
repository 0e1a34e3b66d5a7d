-- `keys` makes that of each entity. Assumes nothing.
use lib.ListN.{get_or}
use borrow.Author.Rules.{rules}
use Rattle.guard.specs.Tables.{no_entity}
use Rattle.guard.specs.Private.Tested.{key_of}
use Rattle.guard.proofs.Filling.{made_at}
use Rattle.guard.proofs.sound.tree.keys.Goals as goal

pub returns : goal.returns
returns c =
    let items = c.from_fn.ensures.items in
    record {
      long = items.long;
      at = λ e h. made_at _ (λ i. key_of (get_or c.args.entities i no_entity)) _ _ (λ i y q k. (search (rules, k), search (rules, k))) 64 items e 0 h;
    }
