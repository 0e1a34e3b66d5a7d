-- Tables stay formed where an entity without children is emptied, and all rights on it and opens of it go: delete.
--     barren                              an entity without children that is no root is no live entity's parent
--     emptied_formed                       the edit, of an entity that nobody uses
--     cleared_formed, cleared_unused       what makes it so
--     keeps_delete                        the rule
-- Assumes nothing.
use Prim.Native.Nat.{ℕ, ◌<◌}
use mathlib.Core.Path.{◌≡◌, refl, ap, sym, ◌∙◌}
use mathlib.Core.Bool.{true, false}
use mathlib.Core.Logic.{◌⊎◌, inl, inr}
use lib.ListN.{set}
use borrow.Author.Tests.{ltb-true, eq-eqb}
use Rattle.bitset.specs.Tests.{every}
use Rattle.bitset.specs.Tests.Laws.{decide, clash, not_of_false, every_i, every_at, implies_i, some_no_e}
use Rattle.bitset.specs.Sets.{has}
use Rattle.bitset.specs.Sets.Laws.{has_without_same, contains_zero}
use Rattle.guard.specs.Level.{is_root}
use Rattle.guard.specs.Label.{same_label}
use Rattle.guard.specs.Tables.{no_session, no_role, no_entity, entity_at, rights_of, is_child}
use Rattle.guard.specs.Chain.{parent_of}
use Rattle.guard.specs.Sound.{entity_in_range_in, is_mark_allowed, is_empty_entity}
use Rattle.guard.specs.Edits.{with_entities, at_entity, each_session, each_role, close_both, set_rights, clear_rights}
use Rattle.guard.specs.Conditions.{has_children}
use Rattle.guard.specs.Requests.{field_in_range_in, delete}
use Rattle.guard.specs.declared.Tables.{Tables}
use Rattle.guard.specs.declared.Request.{Request}
use Rattle.guard.proofs.Laws.Label.{none_in_range as label-in-range}
use Rattle.guard.proofs.Laws.Refusals.{unmet}
use Rattle.guard.proofs.Laws.Rights.{rights_cleared}
use Rattle.guard.proofs.Laws.Sound.{Formed, formed_e}
use Rattle.guard.proofs.Kept.EachStays.{map_each}
use Rattle.guard.proofs.Kept.Sessions.{Keeps, closed_ok, each_session_kept}
use Rattle.guard.proofs.Kept.Roles.{fewer_ok, each_role_kept}
use Rattle.guard.proofs.Kept.Entities.{others_stay, root_parent, Unused, entity_kept}

none_in_range : (width : ℕ) → entity_in_range_in width no_entity ≡ true
unfolding entity_in_range_in
none_in_range width = every_i _ (refl, (refl, (refl, (label-in-range width, (refl, tt)))))

none_empty : is_empty_entity no_entity ≡ true
unfolding is_empty_entity same_label every
none_empty = refl

barren : {width : ℕ} (t : Tables) (q : Request) → Formed width t → is_root q.entity ≡ false → has_children t q ≡ false
    → (f : ℕ) → f < 64 → (entity_at t f).live ≡ true → parent_of t f ≡ q.entity → ⊥
unfolding has_children is_child
barren t q ok other none f l live parent = go (decide (is_root f))
  where
    go : (is_root f ≡ true) ⊎ (is_root f ≡ false) → ⊥
    go (inl root) = clash (is_root q.entity) (ap is_root (sym parent ∙ root_parent t ok f l root) ∙ root) other
    go (inr inner) =
        clash _ (every_i _ (live, (not_of_false _ inner, (eq-eqb _ _ parent, tt)))) (some_no_e 64 _ none f l)

-- nobody has the entity open, nobody has rights on it, and it is no live entity's parent
pub emptied_formed : (width : ℕ) (t : Tables) (e : ℕ) → Formed width t → is_root e ≡ false → Unused t e
    → ((f : ℕ) → f < 64 → (entity_at t f).live ≡ true → parent_of t f ≡ e → ⊥)
    → Formed width (with_entities t (set t.entities e no_entity))
unfolding is_mark_allowed
emptied_formed width t e h other unused none =
    entity_kept t e no_entity h (inr unused) (λ f l live s. others_stay t e no_entity _ (none f l live))
    (record {
      range = none_in_range width;
      root = λ root. absurd (clash _ root other);
      mark = implies_i _ _ (λ object. refl);
      empty = λ dead. none_empty;
      placed = λ live _. absurd (clash false live refl);
    })

-- each session closes e, and each role has no rights on it
module _ (width : ℕ) (t : Tables) (e : ℕ) (ok : Formed width t) (l : e < 64) where
  abbrev cleared : Tables
  cleared = each_role (clear_rights e) (each_session (close_both e) t)

  cleared_formed : Formed width cleared
  unfolding clear_rights set_rights
  cleared_formed =
      each_role_kept _ (each_session (close_both e) t) (clear_rights e)
      (each_session_kept t (close_both e) ok (λ s r old. closed_ok _ _ _ _ old e))
      (λ p. refl) (λ p. refl) (λ r p ok. fewer_ok _ _ _ ok e 0 (contains_zero _))

  cleared_unused : Unused cleared e
  unfolding each_role each_session close_both
  cleared_unused =
      record {
        reading = map_each (λ s r. has r.reading e ≡ false) (close_both e) 16 t.sessions no_session ok.many_sessions (λ s k. has_without_same _ e);
        writing = map_each (λ s r. has r.writing e ≡ false) (close_both e) 16 t.sessions no_session ok.many_sessions (λ s k. has_without_same _ e);
        rights = map_each (λ r p. rights_of p e ≡ 0) (clear_rights e) 16 t.roles no_role ok.many_roles (λ r k. rights_cleared e _);
      }

-- clearing first and emptying then is the same as the rule's order
pub keeps_delete : {width : ℕ} → Keeps width delete
unfolding delete at_entity each_role each_session field_in_range_in
keeps_delete t q d =
    let no = unmet _ refl d.none in
    let l = ltb-true _ _ (every_at _ d.ranges 1) in
    emptied_formed _ (cleared _ t q.entity (formed_e t d.is_sound) l) q.entity (cleared_formed _ t q.entity (formed_e t d.is_sound) l) (no 6)
    (cleared_unused _ t q.entity (formed_e t d.is_sound) l) (barren t q (formed_e t d.is_sound) (no 6) (no 15))
