-- `guard::sound::tree::have_own_keys` tests each entity. Assumes nothing.
use mathlib.Core.Path.{◌∙◌, refl}
use borrow.Author.Rules.{rules}
use Rattle.std.proofs.Common.{tests}
use Rattle.std.proofs.lemmas.Iterator.{YieldsList-from_range}
use Rattle.std.proofs.lemmas.Iterator.Search.{all_from_yields_List}
use Rattle.guard.specs.Private.Tested.{own_key}
use Rattle.guard.proofs.Soundness.Loops.{all_of_range}
use Rattle.guard.proofs.sound.tree.have_own_keys.Goals as goal

pub returns : goal.returns
returns c =
    all_from_yields_List (own_key c.args.keys.now) _ _ _ c.all.ensures.ran (YieldsList-from_range 0 64 64 refl refl) (λ x b q k. search (rules, tests))
    ∙ all_of_range 64 _
