-- `guard::sound::tree::end_at_root` tests each entity. Assumes nothing.
use mathlib.Core.Path.{◌∙◌, refl}
use borrow.Author.Rules.{rules}
use Rattle.std.proofs.Common.{tests}
use Rattle.std.proofs.lemmas.Iterator.{YieldsList-from_range}
use Rattle.std.proofs.lemmas.Iterator.Search.{all_from_yields_List}
use Rattle.guard.specs.Private.Tested.{ends, parent_by_key}
use Rattle.guard.proofs.Soundness.Loops.{all_of_range}
use Rattle.guard.proofs.sound.tree.end_at_root.Goals as goal

pub returns : goal.returns
returns c =
    all_from_yields_List (ends (parent_by_key c.args.keys.now) 16) _ _ _ c.all.ensures.ran (YieldsList-from_range 0 64 64 refl refl) (λ x b q k. search (rules, tests))
    ∙ all_of_range 64 _
