-- Tables stay formed where an entity gets another name, which no other child of its parent has: rename.
--     free_name               a name that is not taken is no child's
--     renamed_formed           the edit
--     keeps_rename            the rule
-- Assumes nothing.
use Prim.Native.Nat.{ℕ, ◌<◌}
use mathlib.Core.Path.{◌≡◌, refl}
use mathlib.Core.Bool.{true, false}
use lib.Dec.{leb, eqb}
use borrow.Author.Tests.{ltb-true}
use Rattle.bitset.specs.Tests.Laws.{clash, is_false, of_not_false, every_i, every_at, some_no_e}
use Rattle.guard.specs.Level.{is_root}
use Rattle.guard.specs.Tables.{entity_at, is_child}
use Rattle.guard.specs.Chain.{parent_of}
use Rattle.guard.specs.Sound.{entity_in_range_in, top_name, is_mark_allowed}
use Rattle.guard.specs.Edits.{at_entity, rename_to}
use Rattle.guard.specs.Conditions.{name_taken}
use Rattle.guard.specs.Requests.{field_in_range_in, rename}
use Rattle.guard.specs.declared.Tables.{Tables}
use Rattle.guard.specs.declared.Request.{Request}
use Rattle.guard.proofs.Laws.Refusals.{unmet}
use Rattle.guard.proofs.Laws.Sound.{child_of, Formed, formed_e}
use Rattle.guard.proofs.Kept.Sessions.{Keeps}
use Rattle.guard.proofs.Kept.Entities.{same_shape_kept}

pub free_name : (t : Tables) (q : Request) (parent : ℕ) → name_taken t q parent ≡ false
    → (f : ℕ) → f < 64 → child_of parent f (entity_at t f) ≡ true → eqb (entity_at t f).name q.name ≡ false
unfolding name_taken is_child
free_name t q parent h f l child =
    is_false _ (λ same. clash _ (every_i _ (child, (same, tt))) (some_no_e 64 _ h f l))

pub renamed_formed : (width : ℕ) (t : Tables) (e name : ℕ) → Formed width t → e < 64 → is_root e ≡ false → (entity_at t e).live ≡ true
    → leb 1 name ≡ true → leb name top_name ≡ true
    → ((f : ℕ) → f < 64 → child_of (parent_of t e) f (entity_at t f) ≡ true → eqb (entity_at t f).name name ≡ false)
    → Formed width (at_entity e (rename_to name) t)
unfolding at_entity rename_to entity_in_range_in is_mark_allowed
renamed_formed width t e name ok l other live low high free =
    let old = ok.entity e l in
    let range = every_at _ old.range in
    same_shape_kept width t e _ ok l refl live
    (every_i _ (range 0, (range 1, (high, (range 3, (range 4, tt))))))
    (λ root. absurd (clash _ root other)) old.mark (λ _. (low, λ f k ne. free f k))

pub keeps_rename : {width : ℕ} → Keeps width rename
unfolding rename field_in_range_in
keeps_rename t q d =
    let no = unmet _ refl d.none in
    let name = every_at _ d.ranges 2 in
    renamed_formed _ t q.entity q.name (formed_e t d.is_sound) (ltb-true _ _ (every_at _ d.ranges 1)) (no 6) (of_not_false _ (no 7))
    (every_at _ name 0) (every_at _ name 1) (free_name t q _ (no 14))
