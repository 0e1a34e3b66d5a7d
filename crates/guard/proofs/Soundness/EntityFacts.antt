-- An entity that passes the test of its record, as facts.
--     Settled              what soundness asks of it, but for its name among its siblings and its chain of parents
--     settled, test_of     the test says this, and no more
--     Known, known         what follows of its numbers
--     zero_label           the label 0/0 is in range
-- Assumes nothing.
use Prim.Native.Nat.{ℕ, ◌/◌, ◌%◌, ◌≤◌, ◌<◌}
use mathlib.Core.Bool.{Bool, true, false}
use mathlib.Core.Path.{◌≡◌, refl, sym, ap}
use native.Mathlib.Omega.{arith}
use lib.Dec.{leb}
use borrow.Author.Tests.{eqb-true, leb-true, ltb-true, le-leb, lt-ltb}
use Rattle.bitset.specs.Tests.Laws.{clash, is_false, not_of_false, of_not_true, every_i, every_at, implies_i}
use Rattle.guard.specs.Level.{is_root}
use Rattle.guard.specs.Label.{all_categories, label_in_range, same_label, no_label}
use Rattle.guard.specs.Tables.{entity_at}
use Rattle.guard.specs.Sound.{entity_in_range_in, is_root_record, is_mark_allowed, is_empty_entity}
use Rattle.guard.specs.Private.Tested.{entity_test}
use Rattle.guard.specs.Private.InForce.{entity_in_range}
use Rattle.guard.specs.declared.Label.{Label}
use Rattle.guard.specs.declared.Entity.{Entity}
use Rattle.guard.specs.declared.Tables.{Tables}
use Rattle.guard.proofs.Laws.Label.{same_label_lem, cats_in, none_in_range}
use Rattle.guard.proofs.Laws.Sound.Facts.{fits_in}
use Rattle.guard.proofs.Soundness.Tests.{cond_yes, cond_no, yes_e, no_e}

pub record Settled (t : Tables) (e : ℕ) (n : Entity) : Type 0 where
  pub range : entity_in_range n ≡ true
  pub root : is_root e ≡ true → is_root_record e n ≡ true
  pub mark : is_mark_allowed n ≡ true
  pub empty : n.live ≡ false → is_empty_entity n ≡ true
  pub named : n.live ≡ true → is_root e ≡ false → leb 1 n.name ≡ true
  pub fits : n.live ≡ true → is_root e ≡ false → fits_in e n (entity_at t n.parent) ≡ true

-- ---- what follows of its numbers
pub record Known (e : ℕ) (n : Entity) : Type 0 where
  pub parent : n.parent < 64
  pub name : n.name < 65536
  pub cats : n.label.cats < 65536
  pub level : n.live ≡ true → n.parent / 16 ≡ e / 16
  pub named : n.live ≡ true → is_root e ≡ false → 1 ≤ n.name
  pub root : is_root e ≡ true → (n.live ≡ true) × (n.parent ≡ e) × (n.name ≡ 0)
  pub dead : n.live ≡ false → (n.parent ≡ 0) × (n.name ≡ 0)

parent_small : (n : Entity) → entity_in_range n ≡ true → n.parent < 64
unfolding entity_in_range_in
parent_small n h = ltb-true _ _ (every_at _ h 1)

pub known : (t : Tables) (e : ℕ) (n : Entity) → Settled t e n → Known e n
unfolding entity_in_range_in is_root_record is_empty_entity
known t e n s =
    let root : is_root e ≡ true → (n.live ≡ true) × (n.parent ≡ e) × (n.name ≡ 0) =
    λ r. let h = every_at _ (s.root r) in (h 0, eqb-true _ _ (h 4), eqb-true _ _ (h 3)) in
    record {
      parent = parent_small n s.range;
      name = let h = leb-true n.name 65535 (every_at _ s.range 2) in omega arith;
      cats = let h = cats_in all_categories n.label (every_at _ s.range 3) in omega arith;
      level = λ live. go (is_root e) refl live root;
      named = λ live other. leb-true 1 n.name (s.named live other);
      root = root;
      dead = λ d. let h = every_at _ (s.empty d) in (eqb-true _ _ (h 1), eqb-true _ _ (h 2));
    }
  where
    go : (b : Bool) → is_root e ≡ b → n.live ≡ true → (is_root e ≡ true → (n.live ≡ true) × (n.parent ≡ e) × (n.name ≡ 0)) → n.parent / 16 ≡ e / 16
    go true r live f = ap (λ (k : ℕ). k / 16) (f r).1
    go false r live f = eqb-true _ _ (every_at _ (s.fits live r) 2)

-- ---- the ranges of a root and of an empty record
pub zero_label : (a : Label) → same_label a no_label ≡ true → label_in_range a ≡ true
zero_label a h = rw ((same_label_lem a no_label).0 h) (none_in_range all_categories)

in_range : (n : Entity) → n.kind ≤ 1 → n.parent < 64 → n.name ≡ 0 → same_label n.label no_label ≡ true → leb n.shared 1 ≡ true
    → entity_in_range n ≡ true
unfolding entity_in_range_in
in_range n k p m l s =
    every_i _ (le-leb n.kind 1 k, (lt-ltb n.parent 64 p, (le-leb n.name 65535 (omega arith), (zero_label n.label l, (s, tt)))))

root_in_range : (e : ℕ) (n : Entity) → e < 64 → is_root_record e n ≡ true → leb n.shared 1 ≡ true → entity_in_range n ≡ true
unfolding is_root_record
root_in_range e n l h s =
    let k = eqb-true n.kind 1 (every_at _ h 1) in
    let p = eqb-true n.parent e (every_at _ h 4) in
    in_range n (omega arith) (omega arith) (eqb-true _ _ (every_at _ h 3)) (every_at _ h 2) s

-- a root is no object
root_mark : (e : ℕ) (n : Entity) → is_root_record e n ≡ true → is_mark_allowed n ≡ true
unfolding is_root_record is_mark_allowed
root_mark e n h = implies_i _ _ (λ object. absurd (apart (eqb-true n.kind 0 object) (eqb-true n.kind 1 (every_at _ h 1))))
  where
    apart : n.kind ≡ 0 → n.kind ≡ 1 → ⊥
    apart a b = omega arith

empty_in_range : (n : Entity) → is_empty_entity n ≡ true → entity_in_range n ≡ true
unfolding is_empty_entity
empty_in_range n h =
    let k = eqb-true n.kind 0 (every_at _ h 0) in
    let p = eqb-true n.parent 0 (every_at _ h 1) in
    let s = eqb-true n.shared 0 (every_at _ h 4) in
    in_range n (omega arith) (omega arith) (eqb-true _ _ (every_at _ h 2)) (every_at _ h 3) (le-leb n.shared 1 (omega arith))

empty_mark : (n : Entity) → is_empty_entity n ≡ true → is_mark_allowed n ≡ true
unfolding is_empty_entity is_mark_allowed
empty_mark n h = implies_i _ _ (λ object. every_at _ h 4)

-- ---- the test and the facts
module _ (t : Tables) (e : ℕ) (n : Entity) where
  pub settled : e < 64 → entity_test e n (entity_at t (n.parent % 64)) ≡ true → Settled t e n
  settled l h = go n.live refl (is_root e) refl
    where
      go : (b : Bool) → n.live ≡ b → (r : Bool) → is_root e ≡ r → Settled t e n
      go true live true r =
          let root = every_at _ (yes_e (is_root e) _ _ r (yes_e n.live _ _ live h)) in
          record {
            range = root_in_range e n l (root 0) (root 1);
            root = λ k. root 0;
            mark = root_mark e n (root 0);
            empty = λ d. absurd (clash _ live d);
            named = λ k o. absurd (clash _ r o);
            fits = λ k o. absurd (clash _ r o);
          }
      go true live false r =
          let other = every_at _ (no_e (is_root e) _ _ r (yes_e n.live _ _ live h)) in
          let fit = every_at _ (other 0) in
          let same : n.parent % 64 ≡ n.parent = omega (arith, parent_small n (fit 0)) in
          record {
            range = fit 0;
            root = λ k. absurd (clash _ k r);
            mark = fit 1;
            empty = λ d. absurd (clash _ live d);
            named = λ k o. other 1;
            fits = λ k o. rw same at (other 2);
          }
      go false dead b r =
          let none = every_at _ (no_e n.live _ _ dead h) in
          record {
            range = empty_in_range n (none 1);
            root = λ k. absurd (clash _ k (of_not_true _ (none 0)));
            mark = empty_mark n (none 1);
            empty = λ d. none 1;
            named = λ k o. absurd (clash _ k dead);
            fits = λ k o. absurd (clash _ k dead);
          }

  pub test_of : Settled t e n → entity_test e n (entity_at t (n.parent % 64)) ≡ true
  unfolding is_root_record entity_in_range_in
  test_of s = go n.live refl (is_root e) refl
    where
      go : (b : Bool) → n.live ≡ b → (r : Bool) → is_root e ≡ r → entity_test e n (entity_at t (n.parent % 64)) ≡ true
      go true live true r = sym (cond_yes n.live _ _ _ live (cond_yes (is_root e) _ _ _ r (sym (every_i _ (s.root r, (every_at _ s.range 4, tt))))))
      go true live false r =
          let same : n.parent % 64 ≡ n.parent = omega (arith, parent_small n s.range) in
          sym (cond_yes n.live _ _ _ live (cond_no (is_root e) _ _ _ r (sym (every_i _ (every_i _ (s.range, (s.mark, tt)), (s.named live r, (rw same (s.fits live r), tt)))))))
      go false dead r q =
          let other : is_root e ≡ false = is_false _ (λ k. clash _ (every_at _ (s.root k) 0) dead) in
          sym (cond_no n.live _ _ _ dead (sym (every_i _ (not_of_false _ other, (s.empty dead, tt)))))
