-- `script::fields::uses` meets its contract: the table's rule, by computing. Assumes nothing.
use Prim.Native.Nat.{ℕ, ◌≤◌, ◌<◌}
use mathlib.Core.Path.{◌≡◌, ◌∙◌}
use denote.Bor.{Bor}
use Rattle.std.specs.Prelude.{Option, Some, None, MatchOption}
use Rattle.std.specs.Option.{option_copied}
use Rattle.std.specs.Slice.{IsItemAt}
use Rattle.script.specs.Line.{used}
use Rattle.script.specs.Private.Rows.{no_word, field_count, members}
use Rattle.script.proofs.FieldsTaken.{table, table_used}
use Rattle.script.proofs.NamePlaces.{any_default}
use Rattle.script.proofs.fields.uses.Goals as goal

read : (w : ℕ) (r : Option (Bor ℕ)) → IsItemAt table w r → MatchOption (option_copied r) (no_word ≤ w) (λ uses. (w < no_word) × (members uses 1 field_count ≡ used w))
unfolding table
read w None h = h.3
read w (Some x) h = (h.3.0, rw (h.1 ∙ any_default table w x.now 0 h.3.0) (table_used w h.3.0))

pub returns : goal.returns
unfolding table
returns c = rw c.copied.ensures (read c.args.word c.get.result c.get.ensures.lookup)
