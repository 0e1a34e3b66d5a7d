-- `users_in_range` tests each user. Assumes nothing.
use mathlib.Core.Path.{◌∙◌}
use borrow.Author.Rules.{rules}
use Rattle.std.proofs.Common.{tests}
use Rattle.std.proofs.lemmas.Iterator.{YieldsList-from_slice}
use Rattle.std.proofs.lemmas.Iterator.Search.{all_from_yields_List}
use Rattle.guard.specs.Tables.{no_user}
use Rattle.guard.specs.Private.InForce.{user_in_range}
use Rattle.guard.proofs.Soundness.Loops.{all_of_list}
use Rattle.guard.proofs.sound.record.users_in_range.Goals as goal

pub returns : goal.returns
returns c =
    all_from_yields_List user_in_range _ _ _ c.all.ensures.ran (YieldsList-from_slice c.args.users (cc)) (λ x b q k. search (rules, tests))
    ∙ all_of_list user_in_range c.args.users no_user 16 (search (rules, c.well_formed))
