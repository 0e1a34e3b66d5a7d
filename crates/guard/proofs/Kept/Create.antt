-- Tables stay formed where an entity is made at a dead number, in a live container of its level, and one role gains own on
-- it: create.
--     new_chain               the new entity's chain ends at the root: no ancestor of its parent is dead, so their line stays,
--                             and it ends one step earlier
--     made_formed              the edit
--     keeps_create            the rule
-- Assumes nothing.
use Prim.Native.Nat.{ℕ, zero, suc, ◌<◌}
use mathlib.Core.Path.{◌≡◌, refl, ap, sym, ◌∙◌}
use mathlib.Core.Bool.{true, false}
use mathlib.Core.Logic.{◌⊎◌, inl, inr}
use lib.Dec.{leb}
use lib.ListN.{set}
use lib.Seq.{get_or-set_same, get_or-set_other}
use native.Mathlib.Omega.{arith}
use borrow.Author.Tests.{ltb-true, eqb-true, eq-eqb}
use Rattle.bitset.specs.Tests.Laws.{decide, clash, of_not_false, every_i, every_at, implies_i, either_no_l, either_no_r}
use Rattle.guard.specs.Level.{role_level, entity_level, is_root}
use Rattle.guard.specs.Tables.{no_entity, entity_at}
use Rattle.guard.specs.Chain.{climbs, parent_of}
use Rattle.guard.specs.Sound.{entity_in_range_in, is_root_record, is_mark_allowed}
use Rattle.guard.specs.Edits.{with_entities, at_entity, set_rights, add_rights}
use Rattle.guard.specs.Conditions.{create_out_of_level}
use Rattle.guard.specs.Requests.{field_in_range_in, created, create}
use Rattle.guard.specs.declared.Entity.{Entity}
use Rattle.guard.specs.declared.Tables.{Tables}
use Rattle.guard.proofs.Laws.Refusals.{unmet}
use Rattle.guard.proofs.Laws.Chain.{ancestor, ancestor_same, Ends, ends_somewhere, ends_within}
use Rattle.guard.proofs.Laws.Sound.{entity_in, parent_in, grantable, fits_in, OwnName, Formed, formed_e}
use Rattle.guard.proofs.Kept.Sessions.{Keeps, not_below}
use Rattle.guard.proofs.Kept.Roles.{granted_ok, role_kept, ties_kept}
use Rattle.guard.proofs.Kept.Entities.{Kin, parent_kin, kin, others_stay, dead_unused, entity_kept}
use Rattle.guard.proofs.Kept.Rename.{free_name}

module _ {width : ℕ} (t : Tables) (ok : Formed width t) (e : ℕ) (n : Entity) (l : e < 64) (dead : (entity_at t e).live ≡ false) where
  -- what is live is not e
  not_new : (f : ℕ) → (entity_at t f).live ≡ true → f ≡ e → ⊥
  not_new f live same = clash (entity_at t e).live (ap (λ (a : ℕ). (entity_at t a).live) (sym same) ∙ live) dead

  at_new : entity_in (set t.entities e n) e ≡ n
  at_new = get_or-set_same t.entities e n no_entity (omega (arith, ok.many_entities))

  module _ (live : (entity_at t n.parent).live ≡ true) (below : n.parent < 64) (level : entity_level n.parent ≡ entity_level e) where
    abbrev parent' : ℕ → ℕ
    parent' = parent_in (set t.entities e n)

    line : (k : ℕ) → Kin t n.parent (ancestor (parent_of t) k n.parent)
    line k = (kin t ok (λ f. Unit {0}) (λ f l live q. tt) k n.parent below live tt).0

    up : (k : ℕ) → ancestor parent' (suc k) e ≡ ancestor (parent_of t) k n.parent
    up k =
        ap (λ (a : Entity). ancestor parent' k a.parent) at_new
        ∙ ancestor_same (parent_of t) parent' k n.parent
        (λ j. ap (λ (a : Entity). a.parent) (others_stay t e n _ (not_new _ (line j).live)))

    levels : (k : ℕ) → entity_level (ancestor parent' k e) ≡ entity_level e
    levels zero = refl
    levels (suc k) = ap entity_level (up k) ∙ (line k).level ∙ level

    new_chain : climbs parent' (λ c. true) 16 e ≡ true
    new_chain = go (decide (is_root n.parent))
      where
        by : Ends (parent_of t) 16 n.parent → climbs parent' (λ c. true) 16 e ≡ true
        by (k, _, root) = ends_within parent' e levels (suc k) (ap is_root (up k) ∙ root)

        go : (is_root n.parent ≡ true) ⊎ (is_root n.parent ≡ false) → climbs parent' (λ c. true) 16 e ≡ true
        go (inl root) = by (0, omega arith, root)
        go (inr other) = by (ends_somewhere (parent_of t) _ 16 n.parent ((ok.entity n.parent below).placed live other).inside.chain)

pub made_formed : (width : ℕ) (t : Tables) (e : ℕ) (n : Entity) → Formed width t → e < 64 → (entity_at t e).live ≡ false → n.live ≡ true
    → entity_in_range_in width n ≡ true → is_mark_allowed n ≡ true → leb 1 n.name ≡ true → fits_in e n (entity_at t n.parent) ≡ true
    → OwnName t.entities e n
    → Formed width (with_entities t (set t.entities e n))
unfolding entity_in_range_in is_root_record
made_formed width t e n ok l dead live range mark name fits free =
    let alive = every_at _ fits 0 in
    entity_kept t e n ok (inr (dead_unused t ok e l dead))
    (λ f k up s. others_stay t e n _ (not_new t ok e n l dead _ (parent_kin t ok f k up).live))
    (record {
      range = range;
      root = λ root. absurd (clash _ (every_at _ ((ok.entity e l).root root) 0) dead);
      mark = mark;
      empty = λ no. absurd (clash _ live no);
      placed = λ _ other. (
        name,
        record {
          parent = rw (get_or-set_other t.entities e n.parent n no_entity (not_new t ok e n l dead _ alive)) fits;
          chain = new_chain t ok e n l dead alive (ltb-true _ _ (every_at _ range 1)) (eqb-true _ _ (every_at _ fits 2));
        },
        free,
      );
    })

pub keeps_create : {width : ℕ} → Keeps width create
unfolding create created create_out_of_level at_entity add_rights set_rights field_in_range_in entity_in_range_in is_mark_allowed
keeps_create t q d =
    let no = unmet _ refl d.none in
    let range = every_at _ d.ranges in
    let l = ltb-true _ _ (range 1) in
    let level = eqb-true (entity_level q.entity) (entity_level q.parent) (of_not_false _ (either_no_l _ _ (no 10))) in
    let fits : fits_in q.entity (created q) (entity_at t q.parent) ≡ true =
    every_i _ (of_not_false _ (either_no_l _ _ (no 7)), (of_not_false _ (no 9), (eq-eqb _ _ (sym level), (of_not_false _ (no 11), tt)))) in
    let made = made_formed _ t q.entity (created q) (formed_e t d.is_sound) l (no 8) refl
    (every_i _ (range 2, (range 3, (every_at _ (range 4) 1, (range 5, (refl, tt)))))) (implies_i _ _ (λ object. refl)) (every_at _ (range 4) 0) fits
    (λ f k ne. free_name t q _ (no 14) f k) in
    let can : grantable q.role q.entity (created q) ≡ true =
    every_i _ (refl, (not_below (role_level q.role) (entity_level q.entity) (either_no_r _ _ (no 10)), tt)) in
    let at = at_new t (formed_e t d.is_sound) q.entity (created q) l (no 8) in
    role_kept _ (at_entity q.entity (λ old. created q) t) q.role _ made (λ s k m live. live) (λ k old.
    granted_ok _ _ _ old q.entity _ (of_not_false _ (either_no_r _ _ (no 7))) l (ap (λ (a : Entity). grantable q.role q.entity a) at ∙ can))
    (ties_kept (at_entity q.entity (λ old. created q) t) q.role _ made refl (λ live. live))
