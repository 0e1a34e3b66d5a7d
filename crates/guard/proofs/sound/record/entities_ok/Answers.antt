-- `entities_ok` tests each entity. Assumes nothing.
use Prim.Native.Nat.{ℕ, ◌%◌}
use mathlib.Core.Bool.{Bool}
use mathlib.Core.Path.{◌∙◌, refl}
use borrow.Author.Rules.{rules}
use lib.ListN.{get_or}
use Rattle.std.proofs.Common.{tests}
use Rattle.std.proofs.lemmas.Iterator.{YieldsList-from_range}
use Rattle.std.proofs.lemmas.Iterator.Search.{all_from_yields_List}
use Rattle.guard.specs.Tables.{no_entity}
use Rattle.guard.specs.Private.Tested.{entity_test}
use Rattle.guard.proofs.Soundness.Loops.{all_of_range}
use Rattle.guard.proofs.sound.record.entities_ok.Goals as goal

pub returns : goal.returns
returns c =
    let all = c.args.entities in
    let test : ℕ → Bool = λ e. entity_test e (get_or all e no_entity) (get_or all ((get_or all e no_entity).parent % 64) no_entity) in
    all_from_yields_List test _ _ _ c.all.ensures.ran (YieldsList-from_range 0 64 64 refl refl) (λ x b q k. search (rules, tests))
    ∙ all_of_range 64 test
