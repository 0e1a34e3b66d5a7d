-- What the code tests of one record, in the cases that it tells apart.
--     entity_none, session_none      what is equal to the empty record has every field zero or empty
--     entity_fits_lem                                                    an entity in its ranges, its mark as its kind allows
--     entity_dead_lem, entity_root, entity_other                         an entity n at e, where p is its parent's record
--     rights_small, role_out, role_last                              a role p at r, by the entities on which it may have rights
--     session_dead, session_out, session_away, session_last          a session s at a level, by the labels of the entities
-- Assumes nothing.
use Prim.Native.Nat.{ℕ, ◌^◌, ◌≤◌, ◌<◌}
use mathlib.Core.Bool.{Bool, true, false, not, beq, ◌&&◌, and-true, and_comm, ◌||◌, and-false, cond}
use mathlib.Core.Path.{◌≡◌, refl, sym, ◌∙◌}
use mathlib.Core.List.{List, [], ◌∷◌}
use native.Mathlib.Decide.{ℕ_discrete}
use native.Mathlib.Omega.{arith}
use lib.Dec.{leb, ltb, eqb}
use borrow.Author.Tests.{eqb-true, leb-true, eq-eqb, le-leb, lt-ltb}
use Rattle.bitset.specs.Tests.{every, either, implies}
use Rattle.bitset.specs.Tests.Laws.{both, clash, is_false, not_of_true, not_of_false, every_i, every_at, implies_i, implies_e, of_not_true, of_not_false}
use Rattle.bitset.specs.Sets.{has, contains}
use Rattle.bitset.specs.Sets.Laws.{has_none, join_lt}
use Rattle.guard.specs.Level.{is_root, is_keeper}
use Rattle.guard.specs.Label.{label_in_range, same_label}
use Rattle.guard.specs.Tables.{no_entity, no_session}
use Rattle.guard.specs.Sound.{entity_in_range_in, is_root_record, is_mark_allowed, is_empty_entity, is_empty_session}
use Rattle.guard.specs.Private.Tested.{entity_fits, entity_test, rights_set, role_test, open_levels, open_labels, session_test}
use Rattle.guard.specs.Private.InForce.{session_in_range}
use Rattle.guard.specs.declared.Entity.{Entity}
use Rattle.guard.specs.declared.Role.{Role}
use Rattle.guard.specs.declared.Session.{Session}
use Rattle.guard.proofs.Laws.Sound.Facts.{fits_in}
use Rattle.guard.proofs.Soundness.Tests.{cond_yes, cond_no}
use Rattle.guard.proofs.Soundness.Members.{within_mask}

-- ---- equality with an empty record, in the order of its fields

-- the mark behind the name and the label, and of the label the grade first
last_mark : (m n x y : Bool) → (m && (n && (x && y))) ≡ (n && ((y && x) && m))
last_mark true true x y = and_comm x y ∙ sym (and-true (y && x))
last_mark true false x y = refl
last_mark false true x y = sym (and-false (y && x))
last_mark false false x y = refl

pub entity_none : (n d : Entity) (r : Bool) → n.live ≡ false → d ≡ no_entity
    → r ≡ (beq n.live d.live && (eqb n.kind d.kind && (eqb n.parent d.parent && (eqb n.shared d.shared && (eqb n.name d.name && (eqb n.label.cats d.label.cats && eqb n.label.grade d.label.grade))))))
    → r ≡ is_empty_entity n
unfolding is_empty_entity same_label every
entity_none n d r dead none e =
    e ∙ rw (none, dead) (simp (and-true, last_mark (eqb n.shared 0) (eqb n.name 0) (eqb n.label.cats 0) (eqb n.label.grade 0)))

pub session_none : (s d : Session) (r : Bool) → s.live ≡ false → d ≡ no_session
    → r ≡ (beq s.live d.live && (eqb s.user d.user && ((eqb s.label.cats d.label.cats && eqb s.label.grade d.label.grade) && (eqb s.roles d.roles && (eqb s.reading d.reading && eqb s.writing d.writing)))))
    → r ≡ is_empty_session s
unfolding is_empty_session same_label every
session_none s d r dead none e =
    e ∙ rw (none, dead) (simp (and-true, and_comm (eqb s.label.cats 0) (eqb s.label.grade 0)))

-- ---- an entity

in_chain : (a b c d : Bool) → (a && (b && (c && d))) ≡ every (a ∷ b ∷ c ∷ d ∷ [])
unfolding every
in_chain a b c d = simp and-true

-- a mark of at most the kind: 0 for an object, at most 1 for a container
mark_fits : (k m : ℕ) → k ≤ 1 → leb m k ≡ every (leb m 1 ∷ implies (eqb k 0) (eqb m 0) ∷ [])
mark_fits k m h = both _ _ forth back
  where
    forth : leb m k ≡ true → every (leb m 1 ∷ implies (eqb k 0) (eqb m 0) ∷ []) ≡ true
    forth t =
        let le = leb-true m k t in
        every_i _ (le-leb m 1 (omega arith), (implies_i _ _ (λ z. let k0 = eqb-true k 0 z in eq-eqb m 0 (omega arith)), tt))

    back : every (leb m 1 ∷ implies (eqb k 0) (eqb m 0) ∷ []) ≡ true → leb m k ≡ true
    back t = go (ℕ_discrete k 0)
      where
        go : Dec (k ≡ 0) → leb m k ≡ true
        go (yes z) = let m0 = eqb-true m 0 (implies_e _ _ (every_at _ t 1) (eq-eqb k 0 z)) in le-leb m k (omega arith)
        go (no z) = let m1 = leb-true m 1 (every_at _ t 0) in le-leb m k (omega (arith, z))

pub entity_fits_lem : (n : Entity) (r : Bool) → leb n.name 65535 ≡ true → r ≡ label_in_range n.label
    → (leb n.kind 1 && (leb n.shared n.kind && (ltb n.parent 64 && r))) ≡ entity_fits n
unfolding entity_in_range_in is_mark_allowed
entity_fits_lem n r name label = both _ _ forth back
  where
    forth : (leb n.kind 1 && (leb n.shared n.kind && (ltb n.parent 64 && r))) ≡ true → entity_fits n ≡ true
    forth t =
        let four = every_at (leb n.kind 1 ∷ leb n.shared n.kind ∷ ltb n.parent 64 ∷ r ∷ []) (sym (in_chain _ _ _ r) ∙ t) in
        let marks = every_at _ (sym (mark_fits n.kind n.shared (leb-true _ _ (four 0))) ∙ four 1) in
        every_i _ (every_i _ (four 0, (four 2, (name, (sym label ∙ four 3, (marks 0, tt))))), (marks 1, tt))

    back : entity_fits n ≡ true → (leb n.kind 1 && (leb n.shared n.kind && (ltb n.parent 64 && r))) ≡ true
    back t =
        let range = every_at _ (every_at _ t 0) in
        let marks : every (leb n.shared 1 ∷ implies (eqb n.kind 0) (eqb n.shared 0) ∷ []) ≡ true = every_i _ (range 4, (every_at _ t 1, tt)) in
        in_chain _ _ _ r
        ∙ every_i _ (range 0, (mark_fits n.kind n.shared (leb-true _ _ (range 0)) ∙ marks, (range 1, (label ∙ range 3, tt))))

module _ (e : ℕ) (n p : Entity) where
  pub entity_dead_lem : (r : Bool) → n.live ≡ false → r ≡ is_empty_entity n → (not (is_root e) && r) ≡ entity_test e n p
  unfolding every
  entity_dead_lem r dead h = cond_no n.live _ _ _ dead (rw h (simp and-true))

  pub entity_root : (r : Bool) → n.live ≡ true → is_root e ≡ true → r ≡ is_root_record e n → (r && leb n.shared 1) ≡ entity_test e n p
  unfolding every
  entity_root r live root h = cond_yes n.live _ _ _ live (cond_yes (is_root e) _ _ _ root (rw h (simp and-true)))

  pub entity_other : (r s : Bool) → n.live ≡ true → is_root e ≡ false → r ≡ entity_fits n → s ≡ fits_in e n p → (r && (leb 1 n.name && s)) ≡ entity_test e n p
  unfolding every
  entity_other r s live other h k = cond_yes n.live _ _ _ live (cond_no (is_root e) _ _ _ other (rw (h, k) (simp and-true)))

-- ---- a role

idle : (live k u j : Bool) → either live (every (not k ∷ u ∷ j ∷ [])) ≡ not (not live && ((k || not u) || not j))
unfolding either every
idle true k u j = refl
idle false true u j = refl
idle false false true true = refl
idle false false true false = refl
idle false false false j = refl

pub rights_small : (p : Role) → p.reads < 2 ^ 64 → p.writes < 2 ^ 64 → p.executes < 2 ^ 64 → p.owns < 2 ^ 64 → rights_set p < 2 ^ 64
rights_small p r w x o = join_lt 64 _ _ (join_lt 64 _ _ (join_lt 64 _ _ r w) x) o

module _ (set r : ℕ) (p : Role) where
  pub role_out : (not p.live && ((is_keeper r || not (eqb p.users 0)) || not (eqb p.juniors 0))) ≡ true → false ≡ role_test (has set) r p
  role_out h = sym (is_false _ (λ k. clash _ (every_at _ k 3) (idle p.live (is_keeper r) (eqb p.users 0) (eqb p.juniors 0) ∙ not_of_true _ h)))

  bounded : (e : ℕ) → has (cond p.live set 0) e ≡ every (p.live ∷ has set e ∷ [])
  unfolding every
  bounded e = go p.live refl
    where
      go : (b : Bool) → p.live ≡ b → has (cond p.live set 0) e ≡ (p.live && (has set e && true))
      go true live = rw live (sym (and-true (has set e)))
      go false dead = rw dead (has_none e)

  pub role_last : (x : Bool) → p.users < 65536 → p.juniors < 65536 → rights_set p < 2 ^ 64 → (not p.live && ((is_keeper r || not (eqb p.users 0)) || not (eqb p.juniors 0))) ≡ false
      → x ≡ contains (cond p.live set 0) (rights_set p) → x ≡ role_test (has set) r p
  role_last x u j l h e =
      let all = e ∙ within_mask 64 (rights_set p) _ _ l (λ k b. bounded k) in
      both x _ (λ t. every_i _ (lt-ltb _ _ u, (lt-ltb _ _ j, (lt-ltb _ _ l, (idle p.live (is_keeper r) (eqb p.users 0) (eqb p.juniors 0) ∙ not_of_false _ h, (sym all ∙ t, tt))))))
      (λ t. all ∙ every_at _ t 4)

-- ---- a session

in_pairs : (a b c d : Bool) → every (a ∷ b ∷ c ∷ d ∷ []) ≡ ((a && b) && (c && d))
unfolding every
in_pairs true b c d = simp and-true
in_pairs false b c d = refl

module _ (labels : List ℕ) (roles edition level : ℕ) (s : Session) where
  pub session_dead : (r : Bool) → s.live ≡ false → r ≡ is_empty_session s → r ≡ session_test labels roles edition level s
  session_dead r dead e = cond_no s.live _ _ _ dead e

  pub session_out : (p q : Bool) → s.live ≡ true → p ≡ session_in_range s → q ≡ contains roles s.roles → not (p && q) ≡ true → false ≡ session_test labels roles edition level s
  session_out p q live e f h = cond_yes s.live _ _ _ live (rw (in_pairs, ← e, ← f, of_not_true (p && q) h))

  pub session_away : (l : Bool) → s.live ≡ true → l ≡ open_levels edition level s → not l ≡ true → false ≡ session_test labels roles edition level s
  session_away l live e h = cond_yes s.live _ _ _ live (rw (in_pairs, ← e, of_not_true l h) (simp (and-false)))

  pub session_last : (p q l r : Bool) → s.live ≡ true → p ≡ session_in_range s → q ≡ contains roles s.roles → not (p && q) ≡ false → l ≡ open_levels edition level s → not l ≡ false → r ≡ open_labels labels s → r ≡ session_test labels roles edition level s
  session_last p q l r live e f h g k i = cond_yes s.live _ _ _ live (rw (in_pairs, ← e, ← f, of_not_false (p && q) h, ← g, of_not_false l k) i)
