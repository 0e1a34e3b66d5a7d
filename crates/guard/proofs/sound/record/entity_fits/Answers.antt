-- `guard::sound::record::entity_fits` is `entity_fits`: a mark that is at most a kind in its range is in its own, and 0 where the kind
-- is; the name of a `u16` is in range. Assumes nothing.
use native.Mathlib.Omega.{arith}
use borrow.Author.Tests.{le-leb}
use Rattle.guard.proofs.Soundness.Cases.{entity_fits_lem}
use Rattle.guard.proofs.sound.record.entity_fits.Goals as goal

pub returns : goal.returns
returns c =
    let n = c.args.n in
    entity_fits_lem n _ (le-leb n.name 65535 (omega arith)) c.in_range.ensures
