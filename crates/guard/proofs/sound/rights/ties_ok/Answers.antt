-- `ties_ok` tests each role. Assumes nothing.
use mathlib.Core.Path.{◌∙◌, refl}
use borrow.Author.Rules.{rules}
use Rattle.std.proofs.Common.{tests}
use Rattle.std.proofs.lemmas.Iterator.{YieldsList-from_range}
use Rattle.std.proofs.lemmas.Iterator.Search.{all_from_yields_List}
use Rattle.guard.specs.Private.Scan.{tie_test}
use Rattle.guard.proofs.Soundness.Loops.{all_of_range}
use Rattle.guard.proofs.sound.rights.ties_ok.Goals as goal

pub returns : goal.returns
returns c =
    all_from_yields_List (tie_test c.args.roles.now c.args.live) _ _ _ c.all.ensures.ran (YieldsList-from_range 0 16 16 refl refl) (λ x b q k. search (rules, tests))
    ∙ all_of_range 16 _
