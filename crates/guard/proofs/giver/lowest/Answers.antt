-- `lowest` asks the roles held from the lowest on, up to the first that has the entity. Assumes nothing.
use Prim.Native.Nat.{◌<◌}
use Rattle.std.specs.Option.{option_map}
use mathlib.Core.Path.{sym, ap, ◌∙◌}
use native.Mathlib.Omega.{arith}
use borrow.Author.Rules.{rules}
use Rattle.bitset.specs.Sets.Laws.{has_below}
use Rattle.guard.specs.Private.Tested.{listed}
use Rattle.guard.specs.Private.Scan.{has_by}
use Rattle.std.proofs.Common.{tests}
use Rattle.std.proofs.lemmas.Iterator.Consumers.{YieldsList-from_first}
use Rattle.std.proofs.lemmas.Iterator.Adapters.{serves_from_places}
use Rattle.std.proofs.lemmas.Iterator.Search.{find_from_yields_List}
use Rattle.guard.specs.declared.members.Members.{Members}
use Rattle.guard.proofs.Soundness.Listed.{listed_in, found_in}
use Rattle.guard.proofs.Columns.{giver_found}
use Rattle.guard.proofs.giver.lowest.Goals as goal

pub find-requires-clause-callable : goal.find-requires-clause-callable
find-requires-clause-callable c =
    serves_from_places (YieldsList-from_first (λ x. x) (λ (s : Members). listed s.0) (listed c.args.held) (ap listed c.from.ensures))
    (λ x q k. search rules)
    (λ x k l is.
    let small : x < 16 = has_below 16 c.args.held x (omega arith) (rw (sym is) at (listed_in c.args.held k x l)) in
    search (rules, c.requires))

pub map-requires : goal.map-requires
map-requires c = λ r is.
    let found = find_from_yields_List (has_by c.args.roles.now c.args.right c.args.e) _ _ _ c.find.ensures.ran (YieldsList-from_first (λ x. x) (λ (s : Members). listed s.0) (listed c.args.held) (ap listed c.from.ensures)) (λ x b q k. search (rules, tests)) in
    let small : r < 16 = has_below 16 c.args.held r (omega arith) (found_in _ c.args.held r (sym found ∙ ap (option_map (λ x. x)) is)).is in
    λ ran fits. omega (arith, small)

pub returns : goal.returns
returns c =
    search (rules, c.map.ensures.cases)
    ∙ find_from_yields_List (has_by c.args.roles.now c.args.right c.args.e) _ _ _ c.find.ensures.ran (YieldsList-from_first (λ x. x) (λ (s : Members). listed s.0) (listed c.args.held) (ap listed c.from.ensures)) (λ x b q k. search (rules, tests))
    ∙ giver_found c.args.roles.now c.args.right c.args.e c.args.held (omega arith)
