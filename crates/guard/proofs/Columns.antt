-- What the scans tell of the tables.
--     Giver, giver_found            the lowest role held that gives a right is the first listed that does
--     giver_lowest, giver_next, giver_none     as a search goes from one role to the next
--     way_of                        the climb by keys is "reaches"
--     name_of, child_of_lem         a name among the children, a child
-- Assumes nothing.
use Rattle.std.specs.Prelude.{Option, Some, None}
use Prim.Native.Nat.{ℕ, ◌+◌, ◌*◌, ◌/◌, ◌%◌, ◌^◌, ◌≤◌, ◌<◌}
use mathlib.Core.Path.{◌≡◌, refl, sym, ap, ◌∙◌}
use mathlib.Core.Bool.{Bool, true, false, not}
use mathlib.Core.List.{List, [], ◌∷◌}
use native.Mathlib.Decide.{ℕ_discrete}
use native.Mathlib.Omega.{arith}
use lib.Dec.{eqb}
use lib.ListN.{get_or}
use borrow.Author.Tests.{eqb-true, eq-eqb}
use Rattle.std.specs.List.{find}
use Rattle.bitset.specs.Tests.{every, some}
use Rattle.bitset.specs.Tests.Laws.{both, clash, is_false, not_of_false, of_not_true, every_i, every_at, some_i, some_e}
use Rattle.bitset.specs.Sets.{has, without}
use Rattle.bitset.specs.Sets.Laws.{has_none, has_below, has_without_other}
use Rattle.guard.specs.Level.{is_root}
use Rattle.guard.specs.Told.{lowest}
use Rattle.guard.specs.Tables.{entity_at, execute, has_right, is_child}
use Rattle.guard.specs.Chain.{reaches}
use Rattle.guard.specs.Sound.{sound}
use Rattle.guard.specs.Conditions.{name_taken, has_children}
use Rattle.guard.specs.Private.Scan.{Keys, has_by, gives, climbs_by, name_by, child_by}
use Rattle.guard.specs.Private.Tested.{listed}
use Rattle.guard.specs.declared.Role.{Role}
use Rattle.guard.specs.declared.scan.Right.{Right}
use Rattle.guard.specs.declared.Tables.{Tables}
use Rattle.guard.specs.declared.Request.{Request}
use Rattle.guard.proofs.Laws.Told.{lowest_at, lowest_none, lowest_cong}
use Rattle.guard.proofs.Laws.Sound.{parent_level}
use Rattle.guard.proofs.Soundness.Climb.{climbs_cong}
use Rattle.guard.proofs.Soundness.Listed.{found_in, found_none}
use Rattle.guard.proofs.Soundness.Keys.{key_live, key_dead, parent_of_key}
use Rattle.guard.proofs.Soundness.Whole.{numbers}

-- the lowest role of those held that gives the right is the first of them listed that does
module _ (roles : List Role) (right : Right) (e : ℕ) where
  abbrev pub Giver : ℕ → Option ℕ
  Giver held = lowest 16 (gives roles held right e)

  pub giver_found : (held : ℕ) → held < 2 ^ 16 → find (has_by roles right e) (listed held) ≡ Giver held
  unfolding every
  giver_found held small = go (find (has_by roles right e) (listed held)) refl
    where
      go : (o : Option ℕ) → find (has_by roles right e) (listed held) ≡ o → o ≡ Giver held
      go None h = sym (lowest_none 16 _ (λ i l. found_none _ held h i (omega (arith, l))))
      go (Some r) h =
          let f = found_in _ held r h in
          sym (lowest_at 16 (gives roles held right e) r (has_below 16 held r small f.is) (every_i (has held r ∷ has_by roles right e r ∷ []) (f.is, (f.met, tt))) (λ i l. f.none i (omega arith) l))

  -- as a search goes: the lowest one left is it where it gives the right; else the search goes on without it; and of none there is none
  pub giver_lowest : (left r : ℕ) → r < 16 → has left r ≡ true → ((i : ℕ) → i < r → has left i ≡ false) → has_by roles right e r ≡ true
      → Giver left ≡ Some r
  unfolding every
  giver_lowest left r l on none met =
      lowest_at 16 (gives roles left right e) r l (every_i (has left r ∷ has_by roles right e r ∷ []) (on, (met, tt))) (λ i m. rw (none i m))

  pub giver_next : (left r : ℕ) → has_by roles right e r ≡ false → Giver (without left r) ≡ Giver left
  giver_next left r lacks = lowest_cong 16 _ _ (λ i l. go i (ℕ_discrete i r))
    where
      go : (i : ℕ) → Dec (i ≡ r) → gives roles (without left r) right e i ≡ gives roles left right e i
      go i (yes s) =
          is_false _ (λ h. clash _ (every_at _ h 1) (rw s lacks)) ∙ sym (is_false (gives roles left right e i) (λ h. clash _ (every_at _ h 1) (rw s lacks)))
      go i (no s) = rw (has_without_other left r i s)

  pub giver_none : Giver 0 ≡ None
  unfolding every
  giver_none = lowest_none 16 _ (λ i l. rw (has_none i))

-- ---- the way up, and the children
module _ (t : Tables) (ok : sound t ≡ true) (keys : List ℕ) (K : Keys t.entities keys) where
  pub way_of : (x through e : ℕ) → e < 64 → ((c : ℕ) → c < 64 → has through c ≡ has_right t x execute c) → climbs_by keys through e ≡ reaches t x e
  unfolding reaches
  way_of x through e l same = climbs_cong _ _ _ _ (parent_of_key t keys K (numbers t ok)) same 16 e l

  -- an entity of p's level whose key names p as its parent
  kin : (p f : ℕ) → p < 64 → f < 64 → get_or keys f 0 / 65536 ≡ p → (is_root f ≡ true → ⊥) → is_child t p f ≡ true
  unfolding is_child
  kin p f k l h other = go (entity_at t f).live refl
    where
      go : (b : Bool) → (entity_at t f).live ≡ b → every ((entity_at t f).live ∷ not (is_root f) ∷ eqb (entity_at t f).parent p ∷ []) ≡ true
      go true live =
          let key = key_live t keys K (numbers t ok) f l live in
          every_i _ (live, (not_of_false _ (is_false _ other), (eq-eqb (entity_at t f).parent p (omega (arith, (numbers t ok f l).name)), tt)))
      go false dead = let key = key_dead t keys K (numbers t ok) f l dead in absurd (omega arith)

  -- a child of p stands in p's level, and its key is by p and its name
  kid : (p f : ℕ) → f < 64 → is_child t p f ≡ true
      → (p / 16 * 16 + f % 16 ≡ f) × (get_or keys f 0 ≡ p * 65536 + (entity_at t f).name) × ((entity_at t f).name < 65536)
  unfolding is_child
  kid p f l h =
      let live = every_at _ h 0 in
      let other = of_not_true _ (every_at _ h 1) in
      let parent : (entity_at t f).parent ≡ p = eqb-true _ _ (every_at _ h 2) in
      let (level, above) = parent_level t ok f l live other in
      let name = (numbers t ok f l).name in
      let key = key_live t keys K (numbers t ok) f l live in
      let up : p / 16 ≡ f / 16 = ap (λ (n : ℕ). n / 16) (sym parent) ∙ level in
      (omega arith, key ∙ ap (λ (n : ℕ). n * 65536 + (entity_at t f).name) parent, name)

  pub child_of_lem : (q : Request) → q.entity < 64 → is_root q.entity ≡ false → child_by keys q.entity ≡ has_children t q
  unfolding child_by has_children
  child_of_lem q k other = both _ _ forth back
    where
      forth : some 16 (λ m. eqb (get_or keys (q.entity / 16 * 16 + m) 0 / 65536) q.entity) ≡ true → some 64 (λ f. is_child t q.entity f) ≡ true
      forth h =
          let (m, b, same) = some_e _ _ h in
          let inside : q.entity / 16 * 16 + m < 64 = omega arith in
          some_i 64 _ (q.entity / 16 * 16 + m) inside (kin q.entity _ k inside (eqb-true _ _ same) (λ root. clash (is_root q.entity) (itself _ inside root (eqb-true _ _ same)) other))
        where
          itself : (f : ℕ) → f < 64 → is_root f ≡ true → get_or keys f 0 / 65536 ≡ q.entity → is_root q.entity ≡ true
          itself f l root same =
              let (live, parent, name) = (numbers t ok f l).root root in
              let key = key_live t keys K (numbers t ok) f l live in
              let e : f ≡ q.entity = omega arith in
              rw e at root

      back : some 64 (λ f. is_child t q.entity f) ≡ true → some 16 (λ m. eqb (get_or keys (q.entity / 16 * 16 + m) 0 / 65536) q.entity) ≡ true
      back h =
          let (f, l, child) = some_e _ _ h in
          let (place, key, name) = kid q.entity f l child in
          some_i 16 _ (f % 16) (omega arith) (rw place (eq-eqb (get_or keys f 0 / 65536) q.entity (omega arith)))

  pub name_of : (q : Request) (p : ℕ) → p < 64 → 1 ≤ q.name → q.name ≤ 65535 → name_by keys p q.name ≡ name_taken t q p
  unfolding name_by name_taken
  name_of q p k least most = both _ _ forth back
    where
      forth : some 16 (λ m. eqb (get_or keys (p / 16 * 16 + m) 0) (p * 65536 + q.name % 65536)) ≡ true
          → some 64 (λ f. every (is_child t p f ∷ eqb (entity_at t f).name q.name ∷ [])) ≡ true
      forth h =
          let (m, b, same) = some_e _ _ h in
          let inside : p / 16 * 16 + m < 64 = omega arith in
          some_i 64 _ (p / 16 * 16 + m) inside (named _ inside (eqb-true _ _ same))
        where
          named : (f : ℕ) → f < 64 → get_or keys f 0 ≡ p * 65536 + q.name % 65536 → every (is_child t p f ∷ eqb (entity_at t f).name q.name ∷ []) ≡ true
          named f l same =
              let child = kin p f k l (omega arith) (λ root.
              let (live, parent, name) = (numbers t ok f l).root root in
              let key = key_live t keys K (numbers t ok) f l live in
              omega arith) in
              let (place, key, name) = kid p f l child in
              every_i _ (child, (eq-eqb (entity_at t f).name q.name (omega arith), tt))

      back : some 64 (λ f. every (is_child t p f ∷ eqb (entity_at t f).name q.name ∷ [])) ≡ true
          → some 16 (λ m. eqb (get_or keys (p / 16 * 16 + m) 0) (p * 65536 + q.name % 65536)) ≡ true
      back h =
          let (f, l, met) = some_e _ _ h in
          let (place, key, name) = kid p f l (every_at _ met 0) in
          let same : (entity_at t f).name ≡ q.name = eqb-true _ _ (every_at _ met 1) in
          some_i 16 _ (f % 16) (omega arith) (rw place (eq-eqb (get_or keys f 0) (p * 65536 + q.name % 65536) (omega arith)))
