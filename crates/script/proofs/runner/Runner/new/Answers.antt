-- `Runner::new` is the runner that nothing has been done with: the guard builds its opening tables. Assumes nothing.
use mathlib.Core.Path.{◌≡◌}
use borrow.Author.Rules.{rules}
use Rattle.guard.specs.Tables.{no_user}
use Rattle.script.proofs.Replies.{nobody_built}
use Rattle.script.proofs.runner.Runner.new.Goals as goal

pub returns : goal.returns
returns c =
    let nobody : c.default.result ≡ no_user = search (rules, c.default.ensures) in
    rw c.fresh-o.ensures (rw (nobody, nobody_built))
