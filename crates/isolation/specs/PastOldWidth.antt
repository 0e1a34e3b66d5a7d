-- Where a category number goes past 255 the two widths can answer differently, so that the premise of OldWidth matters; by
-- computing.
--     old_tables_sound      old tables that are sound: fresh ones, over the users of one morning
--     unused_past           a number past 255 in a field that a request does not use leaves a log within 255
--     past_differs          a login under category 8 alone: out of range in the old width, in force not dominated by the clearance
--     past_goes_on          a create under it: refused in the old width, done in force, so that what follows differs too
-- Assumes nothing.
use Rattle.std.specs.Prelude.{ℕ, ◌≡◌, refl, true, List, [], ◌∷◌, map}
use Rattle.bitset.specs.Tests.{every}
use Rattle.guard.specs.Label.{old_width}
use Rattle.guard.specs.Tables.{edition1}
use Rattle.guard.specs.Sound.{sound_in}
use Rattle.guard.specs.Fresh.{fresh}
use Rattle.guard.specs.Step.{answers_in, answers}
use Rattle.guard.specs.Old.{taken_over}
use Rattle.guard.specs.Kind.{logout, take, openw, delete}
use Rattle.guard.specs.Methods.{request, login_request, role_request, entity_request, create_request}
use Rattle.guard.specs.declared.Request.{Request}
use Rattle.guard.specs.declared.old.OldTables.{OldTables}
use Rattle.guard.proofs.Compute.{computing}
use Rattle.worked.proofs.Morning.{morning_users}
use Rattle.isolation.specs.Within.{field_within, categories_within}
use Rattle.isolation.specs.Proof.OldWidth.{given_back}

unfoldable pub old_tables : OldTables
old_tables = given_back (fresh morning_users edition1)

pub old_tables_sound : sound_in old_width (taken_over old_tables) ≡ true
unfolding computing morning_users old_tables given_back taken_over
old_tables_sound = refl

-- a login of seat 12 by user 0, whose clearance is 3/255
abbrev pub entering : ℕ → Request
entering cats = login_request 12 0 0 cats

-- a logout of seat 12, with 256 in the field of the categories
abbrev pub leaving : Request
leaving = request logout 12 0 0 0 0 0 0 0 256 0 0 0

pub unused_past : every (map (categories_within old_width) (entering 255 ∷ leaving ∷ [])) ≡ true
unfolding computing field_within categories_within
unused_past = refl

pub past_differs : (answers_in old_width (taken_over old_tables) (entering 256 ∷ []) ≡ 2 ∷ []) × (answers (taken_over old_tables) (entering 256 ∷ []) ≡ 4 ∷ [])
unfolding computing morning_users old_tables given_back taken_over
past_differs = (refl, refl)

-- seat 12 signs in, takes the keeper of level 3, opens its root and creates object 49 there under category 8 alone, which it then
-- deletes
abbrev pub creating : List Request
creating =
    entering 0
    ∷ role_request take 12 12
    ∷ entity_request openw 12 48
    ∷ create_request 12 49 0 48 7 0 256 12
    ∷ entity_request delete 12 49
    ∷ []

pub past_goes_on : (answers_in old_width (taken_over old_tables) creating ≡ 0 ∷ 0 ∷ 0 ∷ 2 ∷ 7 ∷ [])
    × (answers (taken_over old_tables) creating ≡ 0 ∷ 0 ∷ 0 ∷ 0 ∷ 0 ∷ [])
unfolding computing morning_users old_tables given_back taken_over
past_goes_on = (refl, refl)
