-- `has_senior` asks each role. Assumes nothing.
use mathlib.Core.Path.{◌∙◌}
use borrow.Author.Rules.{rules}
use Rattle.std.proofs.Common.{tests}
use Rattle.std.proofs.lemmas.Iterator.{YieldsList-from_slice}
use Rattle.std.proofs.lemmas.Iterator.Search.{any_from_yields_List}
use Rattle.bitset.specs.Sets.{has}
use Rattle.guard.specs.Tables.{no_role}
use Rattle.guard.specs.Private.Scan.{senior_by}
use Rattle.guard.specs.declared.Role.{Role}
use Rattle.guard.proofs.Chains.{some_of_list}
use Rattle.guard.proofs.scan.has_senior.Goals as goal

pub returns : goal.returns
unfolding senior_by
returns c =
    any_from_yields_List (λ (p : Role). has p.juniors c.args.r) _ _ _ c.any.ensures.ran (YieldsList-from_slice c.args.roles.now (cc)) (λ x b q k. search (rules, tests))
    ∙ some_of_list _ c.args.roles.now no_role 16 (search (rules, c.well_formed))
