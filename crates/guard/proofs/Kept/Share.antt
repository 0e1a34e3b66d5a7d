-- Tables stay formed where a container gets another mark: share.
--     marked_formed            the edit
--     keeps_share             the rule
-- Assumes nothing.
use Prim.Native.Nat.{ℕ, ◌<◌}
use mathlib.Core.Path.{◌≡◌, refl}
use mathlib.Core.Bool.{true, false}
use lib.Dec.{leb, eqb}
use borrow.Author.Tests.{ltb-true}
use Rattle.bitset.specs.Tests.Laws.{clash, of_not_false, every_i, every_at, implies_i}
use Rattle.guard.specs.Tables.{entity_at, object, shared_mark}
use Rattle.guard.specs.Sound.{entity_in_range_in, is_root_record, is_mark_allowed}
use Rattle.guard.specs.Edits.{at_entity, mark_as}
use Rattle.guard.specs.Requests.{field_in_range_in, share}
use Rattle.guard.specs.declared.Tables.{Tables}
use Rattle.guard.proofs.Laws.Refusals.{unmet}
use Rattle.guard.proofs.Laws.Sound.{Formed, formed_e}
use Rattle.guard.proofs.Kept.Sessions.{Keeps}
use Rattle.guard.proofs.Kept.Entities.{same_shape_kept}

pub marked_formed : (width : ℕ) (t : Tables) (e mark : ℕ) → Formed width t → e < 64 → (entity_at t e).live ≡ true
    → eqb (entity_at t e).kind object ≡ false → leb mark shared_mark ≡ true → Formed width (at_entity e (mark_as mark) t)
unfolding at_entity mark_as entity_in_range_in is_root_record is_mark_allowed
marked_formed width t e mark ok l live container high =
    let old = ok.entity e l in
    let range = every_at _ old.range in
    same_shape_kept width t e _ ok l refl live
    (every_i _ (range 0, (range 1, (range 2, (range 3, (high, tt))))))
    old.root (implies_i _ _ (λ object. absurd (clash _ object container)))
    (λ other. let place = old.placed live other in (place.named, place.own_name))

pub keeps_share : {width : ℕ} → Keeps width share
unfolding share field_in_range_in
keeps_share t q d =
    let no = unmet _ refl d.none in
    let range = every_at _ d.ranges in
    marked_formed _ t q.entity q.shared (formed_e t d.is_sound) (ltb-true _ _ (range 1)) (of_not_false _ (no 7)) (no 9) (range 2)
