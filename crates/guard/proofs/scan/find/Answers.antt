-- `find` is what its three scans tell, for a kind that asks for rights; another asks nothing of them. Assumes nothing.
use Prim.Native.Nat.{ℕ}
use mathlib.Core.Path.{◌≡◌, sym, ◌∙◌}
use mathlib.Core.Bool.{false}
use mathlib.Core.List.{List}
use Rattle.bitset.specs.Tests.Laws.{clash, either_no_l}
use Rattle.guard.specs.Private.Inside.{asks_way, asks_rights}
use Rattle.guard.specs.Private.Scan.{tied_by, reached_by, FoundBy}
use Rattle.guard.specs.declared.Role.{Role}
use Rattle.guard.specs.declared.Request.{Request}
use Rattle.guard.specs.declared.scan.Found.{Found}
use Rattle.guard.proofs.scan.find.Goals as goal

-- a kind that asks for no right asks neither for the way nor for a child
found_ties : (keys : List ℕ) (roles : List Role) (q : Request) (held e o r j : ℕ) (f : Found) → asks_rights q.call ≡ false → f.reached ≡ false → f.kin ≡ tied_by roles q.call r j
    → FoundBy keys roles q held e o r j f
unfolding asks_rights reached_by
found_ties keys roles q held e o r j f none unreached tied =
    let way : asks_way q.call ≡ false = either_no_l _ _ none in
    record {
      rights = λ a. absurd (clash (asks_rights q.call) a none);
      reached = unreached ∙ rw way;
      kin = λ a. absurd (clash (asks_rights q.call) a none);
      tied = λ a. tied;
    }

pub returns-then-not-asks_rights : goal.returns-then-not-asks_rights
returns-then-not-asks_rights c =
    found_ties _ _ _ _ _ _ _ _ _ (sym c.asks_rights.ensures ∙ c.if-not-asks_rights.true) c.default.ensures.1.0 c.tied.ensures
