-- `script::text::find` stands where what is before the first delimiter ends. Assumes nothing.
use mathlib.Core.Path.{refl}
use Rattle.std.proofs.Common.{ℕ, List, length, eqb, rules, tests}
use Rattle.std.proofs.lemmas.Iterator.{YieldsList-from_slice}
use Rattle.std.proofs.lemmas.Iterator.Search.{position_from_yields_List}
use Rattle.script.specs.Private.Slices.{before}
use Rattle.script.proofs.Texts.{first_place, before_place}
use Rattle.script.proofs.text.find.Goals as goal

pub returns : goal.returns
unfolding before
returns c =
    first_place (λ (s : List ℕ). length (before c.args.d s)) (λ b. eqb b c.args.d) refl (before_place c.args.d) c.args.s.now
    (position_from_yields_List (λ b. eqb b c.args.d) _ _ _ c.position.ensures.ran (YieldsList-from_slice c.args.s.now cc) (λ x b q k. search (rules, tests)))
    c.unwrap_or.ensures
