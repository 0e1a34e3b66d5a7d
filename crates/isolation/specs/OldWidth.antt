-- Taking over tables of the old width: change A.1's promise, as one statement on all logs.
-- "The same rules" are the rules in force, in the old width: sound_in, answers_in, roles_told_in, run_in (guard/specs: Sound, Step) at
-- old_width. They speak of numbers, and the numbers of old tables o are those of taken_over o (guard/specs/Old). PastOldWidth shows
-- that the premise on the log matters. Assumes nothing.
use Rattle.std.specs.Prelude.{◌≡◌, true, List, map}
use Rattle.bitset.specs.Tests.{every}
use Rattle.guard.specs.Label.{old_width}
use Rattle.guard.specs.Tables.{edition1}
use Rattle.guard.specs.Sound.{sound_in, sound}
use Rattle.guard.specs.Step.{answers_in, roles_told_in, run_in, answers, roles_told, run}
use Rattle.guard.specs.Old.{taken_over}
use Rattle.guard.specs.declared.Tables.{Tables}
use Rattle.guard.specs.declared.Request.{Request}
use Rattle.guard.specs.declared.old.OldTables.{OldTables}
use Rattle.guard.proofs.Laws.Edition.{run_edition}
use Rattle.isolation.specs.Within.{categories_within, Fits, AsOld}
use Rattle.isolation.specs.Proof.OldWidth.{same_log, same_sound, old_ones}

pub old_width_lem :
    -- From sound old tables taken over (sound in the old width),
    (o : OldTables) → sound_in old_width (taken_over o) ≡ true
    -- every log, of any length, refused requests included, whose category numbers stay within 255
    → (log : List Request) → every (map (categories_within old_width) log) ≡ true
    -- gets, request by request, the answers that the same rules give in the old width,
    → (answers (taken_over o) log ≡ answers_in old_width (taken_over o) log)
    -- with the roles that they tell there,
    × (roles_told (taken_over o) log ≡ roles_told_in old_width (taken_over o) log)
    -- and the tables after it are those that the same rules leave in the old width, every number the same,
    × (run (taken_over o) log ≡ run_in old_width (taken_over o) log)
    -- and sound there.
    × (sound_in old_width (run (taken_over o) log) ≡ true)
old_width_lem o = same_log (taken_over o)

-- Their edition is 1, since no request changes it.
pub old_edition : (o : OldTables) (log : List Request) → (run (taken_over o) log).edition ≡ edition1
unfolding taken_over
old_edition o log = run_edition (taken_over o) log

-- So they are old ones taken over where no container is shared and no roles are tied, since old tables have no marks and no ties: tables
-- of edition 1 that are sound in the old width and have no shared container and no ties are those of old tables with sets within 255,
-- which eight bits hold.
pub old_again : (t : Tables) → sound_in old_width t ≡ true → AsOld t → (old : OldTables) × (taken_over old ≡ t) × Fits old_width (taken_over old)
old_again = old_ones

-- Old tables, whose sets of categories have eight bits and so are within 255, are sound in the old width exactly if they are sound
-- taken over.
pub sound_both : (o : OldTables) → Fits old_width (taken_over o) → sound_in old_width (taken_over o) ≡ sound (taken_over o)
sound_both o = same_sound (taken_over o)
