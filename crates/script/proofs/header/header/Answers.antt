-- `script::header::header` meets its contract: `split` hands out the values of the line, and `enumerate` their places. Assumes nothing.
use Prim.Native.Nat.{ℕ, ◌%◌, ◌+◌, ◌<◌}
use mathlib.Core.List.{List, [], ◌∷◌, ◌++◌}
use mathlib.Core.Path.{◌≡◌, sym, ap, ◌∙◌}
use native.Mathlib.Nat.{mod-eq_of_lt}
use native.Mathlib.Omega.{arith}
use lib.Dec.{eqb}
use lib.ListN.{length, get_or}
use Rattle.bitset.specs.Sets.{with}
use Rattle.script.specs.Text.{values}
use Rattle.script.specs.Names.{all_names}
use Rattle.script.specs.Private.ShortTexts.{place_in}
use Rattle.std.proofs.Common.{rules, tests, of_calls}
use Rattle.std.proofs.lemmas.List.{length_push}
use Rattle.std.proofs.lemmas.Iterator.{YieldsList}
use Rattle.std.proofs.lemmas.Iterator.Consumers.{YieldsList-from_enumerate, YieldsList-at, YieldsList-turn, YieldsList-end}
use Rattle.std.proofs.lemmas.Iterator.Splits.{YieldsList-from_slice_split}
use Rattle.std.specs.List.{slice_split, enumerate_from}
use Rattle.std.specs.Prelude.{Some}
use Rattle.script.proofs.HeaderLoop.{Seen, seen_start, seen_few, seen_more, seen_end, seen_none, seen_again, name_known_at, numbered_here, numbered_all}
use Rattle.script.proofs.header.header.Given.{iterator-loop-j}
use Rattle.script.proofs.header.header.Goals.{After-into_iter-j-iterator, In-Some}
use Rattle.script.proofs.header.header.Goals as goal

-- what the loop runs over: each value of the line with its place
road : (c : After-into_iter-j-iterator)
    → YieldsList iterator-loop-j.next_gives (λ p. (p.0, p.1.now)) c.into_iter-j-iterator.result (enumerate_from 0 (slice_split (λ b. eqb b 32) c.args.s.now))
road c =
    YieldsList-at c.into_iter-j-iterator.ensures.into_iter_gives
    (YieldsList-from_enumerate (YieldsList-at c.enumerate-j-items.ensures.source (YieldsList-from_slice_split _ (λ b. eqb b 32) c.args.s.now c.split.ensures.rest c.split.ensures.done c.split.ensures.closure (λ x r q k. search (rules, tests)))) c.enumerate-j-items.ensures.count)

-- one turn of it: the place, the value there, and what is known of those before
turn : (c : In-Some)
    → YieldsList iterator-loop-j.next_gives (λ p. (p.0, p.1.now)) c.into_iter-j-iterator.result (enumerate_from 0 (slice_split (λ b. eqb b 32) c.args.s.now))
    → (c.in-Some.j ≡ length c.loop-j.yielded)
    × ((c.in-Some.j < length (values c.args.s.now)) × (c.in-Some.value.now ≡ get_or (values c.args.s.now) c.in-Some.j []))
    × Seen c.args.s.now c.loop-j.at c.loop-j.seen c.in-Some.j
turn c r =
    let t = YieldsList-turn r c.loop-j.yielded _ c.loop-j.yielded_by _ _ _ c.in-Some.is c.next.ensures.steps in
    let (q, f) = numbered_here c.args.s.now _ _ _ t in
    (q, f, rw q c.loop-j.invariant.2)

pub loop-j-init : goal.loop-j-init
loop-j-init c = (search of_calls, search of_calls, seen_start _)

pub returns-in_err-name : goal.returns-in_err-name
returns-in_err-name c =
    let (_, f, seen) = turn (goal.at.returns-in_err-name c).In-Some (road (goal.at.returns-in_err-name c).After-into_iter-j-iterator) in
    rw c.from_residual.ensures (seen_none seen f (sym c.in_err-name.was ∙ c.name_at.ensures))

pub returns-then-has : goal.returns-then-has
returns-then-has c =
    let (_, f, seen) = turn (goal.at.returns-then-has c).In-Some (road (goal.at.returns-then-has c).After-into_iter-j-iterator) in
    seen_again seen f (sym c.in_ok-name.was ∙ c.name_at.ensures) (sym c.has.ensures ∙ c.if-has.true)

pub bounds-at-j : goal.bounds-at-j
bounds-at-j c =
    let (_, _, seen) = turn (goal.at.bounds-at-j c).In-Some (road (goal.at.bounds-at-j c).After-into_iter-j-iterator) in
    omega (arith, seen_few seen)

-- a name's place is below sixteen
added : (seen : ℕ) (m n : ℕ) (p : List ℕ) → m ≡ with seen (n % 16) → Some n ≡ place_in p all_names → m ≡ with seen n
added seen m n p h k = let (_, l) = name_known_at p n k in h ∙ ap (with seen) (mod-eq_of_lt (omega arith))

pub loop-j-preserved : goal.loop-j-preserved
loop-j-preserved c =
    let (q, f, seen) = turn (goal.at.loop-j-preserved c).In-Some (road (goal.at.loop-j-preserved c).After-into_iter-j-iterator) in
    let here = sym c.in_ok-name.was ∙ c.name_at.ensures in
    let more = seen_more seen f here (added _ _ _ _ c.with-seen.ensures here) (sym c.has.ensures ∙ c.if-has.false) in
    let n : length (c.loop-j.yielded ++ (c.in-Some.j, c.in-Some.value) ∷ []) ≡ c.in-Some.j + 1 = omega (arith, q, length_push c.loop-j.yielded (c.in-Some.j, c.in-Some.value)) in
    (c.in-Some.ensures.goes.keeps, search of_calls, rw n more)

pub returns : goal.returns
returns c =
    let t = YieldsList-end (road (goal.at.returns c).After-into_iter-j-iterator) c.loop-j.yielded _ c.loop-j.yielded_by _ _ c.in-None.is c.next.ensures.steps in
    let many = numbered_all c.args.s.now _ t.1 in
    rw c.then_some.ensures (seen_end c.loop-j.invariant.2 many c.contains.ensures)
