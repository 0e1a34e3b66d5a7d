-- What the keys tell of the tree, where each entity's numbers are known.
--     parent_of_key             the parent that a key holds
--     chains_as                 chains by the keys are chains of parents
--     own_e, own_i              a key of its own in its level is a name that no sibling has
--     live_of_key, key_small    bit 24 of a key tells what is live, and no bit above it is set
-- Assumes nothing.
use Prim.Native.Nat.{ℕ, ◌+◌, ◌*◌, ◌/◌, ◌%◌, ◌≤◌, ◌<◌}
use mathlib.Core.Bool.{Bool, true, false, cond}
use mathlib.Core.List.{List}
use mathlib.Core.Logic.{⊎_elim}
use mathlib.Core.Path.{◌≡◌, refl, sym, ap, ◌∙◌}
use native.Mathlib.Omega.{arith}
use lib.Dec.{eqb}
use lib.ListN.{get_or}
use borrow.Author.Tests.{eqb-true, eqb-false, eq-eqb, ne_eqb, lt-ltb}
use Rattle.bitset.specs.Tests.{all}
use Rattle.bitset.specs.Tests.Laws.{clash, is_false, not_of_false, of_not_true, of_not_false, every_i, every_at, either_l, either_r, either_e, implies_i, implies_e, all_i, all_e, all_cong}
use Rattle.guard.specs.Level.{is_root}
use Rattle.guard.specs.Tables.{entity_at}
use Rattle.guard.specs.Private.Tested.{ends, own_key, parent_by_key, live_by_key}
use Rattle.guard.specs.Private.Scan.{Keys}
use Rattle.guard.specs.declared.Tables.{Tables}
use Rattle.guard.proofs.Laws.Sound.Facts.{parent_in, OwnName}
use Rattle.guard.proofs.Soundness.Climb.{climbs_cong}
use Rattle.guard.proofs.Soundness.EntityFacts.{Known}

cond_true : (b : Bool) (x y : ℕ) → b ≡ true → cond b x y ≡ x
cond_true b x y q = rw q

cond_false : (b : Bool) (x y : ℕ) → b ≡ false → cond b x y ≡ y
cond_false b x y q = rw q

module _ (t : Tables) (keys : List ℕ) (K : Keys t.entities keys) (N : (e : ℕ) → e < 64 → Known e (entity_at t e)) where
  pub key_live : (e : ℕ) → e < 64 → (entity_at t e).live ≡ true → get_or keys e 0 ≡ (entity_at t e).parent * 65536 + (entity_at t e).name
  key_live e l h = K.at e l ∙ cond_true (entity_at t e).live _ _ h

  pub key_dead : (e : ℕ) → e < 64 → (entity_at t e).live ≡ false → get_or keys e 0 ≡ 16777216
  key_dead e l h = K.at e l ∙ cond_false (entity_at t e).live _ _ h

  pub parent_of_key : (e : ℕ) → e < 64 → (parent_by_key keys e ≡ parent_in t.entities e) × (parent_in t.entities e < 64)
  parent_of_key e l = (go (entity_at t e).live refl, (N e l).parent)
    where
      go : (b : Bool) → (entity_at t e).live ≡ b → parent_by_key keys e ≡ parent_in t.entities e
      go true h = rw (key_live e l h) (omega (arith, (N e l).parent, (N e l).name))
      go false h = rw (key_dead e l h, ((N e l).dead h).0)

  pub chains_as : all 64 (ends (parent_by_key keys) 16) ≡ all 64 (ends (parent_in t.entities) 16)
  chains_as = all_cong 64 _ _ (λ e l. climbs_cong _ _ _ _ parent_of_key (λ k h. refl) 16 e l)

  pub live_of_key : (e : ℕ) → e < 64 → live_by_key keys e ≡ (entity_at t e).live
  live_of_key e l = go (entity_at t e).live refl
    where
      go : (b : Bool) → (entity_at t e).live ≡ b → live_by_key keys e ≡ (entity_at t e).live
      go true h = rw (h, key_live e l h) (lt-ltb ((entity_at t e).parent * 65536 + (entity_at t e).name) 16777216 (omega (arith, (N e l).parent, (N e l).name)))
      go false h = rw (h, key_dead e l h)

  pub key_small : (e : ℕ) → e < 64 → get_or keys e 0 ≤ 16777216
  key_small e l = go (entity_at t e).live refl
    where
      go : (b : Bool) → (entity_at t e).live ≡ b → get_or keys e 0 ≤ 16777216
      go true h = omega (arith, key_live e l h, (N e l).parent, (N e l).name)
      go false h = omega (arith, key_dead e l h)

  module _ (e : ℕ) (l : e < 64) where
    pub own_e : own_key keys e ≡ true → (entity_at t e).live ≡ true → is_root e ≡ false → OwnName t.entities e (entity_at t e)
    own_e h live other f k ne child =
        ne_eqb (entity_at t f).name (entity_at t e).name (λ same.
        let there = every_at _ child in
        let p : (entity_at t f).parent ≡ (entity_at t e).parent = eqb-true _ _ (there 2) in
        let kf = key_live f k (there 0) in
        let ke = key_live e l live in
        let place : e / 16 * 16 + f % 16 ≡ f = omega (arith, (N f k).level (there 0), (N e l).level live, ap (λ (x : ℕ). x / 16) p) in
        ⊎_elim
        (λ z. omega (arith, eqb-true (get_or keys e 0 % 65536) 0 z, (N e l).named live other, (N e l).name))
        (λ a. ne (sym place ∙ eqb-true _ _ (implies_e _ _ (all_e 16 _ a (f % 16) (omega arith)) (rw place (eq-eqb (get_or keys f 0) (get_or keys e 0) (omega arith))))))
        (either_e _ _ h))

    pub own_i : (((entity_at t e).live ≡ true) → is_root e ≡ false → OwnName t.entities e (entity_at t e)) → own_key keys e ≡ true
    own_i own = go (eqb (get_or keys e 0 % 65536) 0) refl
      where
        alive : (f : ℕ) → f < 64 → (get_or keys f 0 % 65536 ≡ 0 → ⊥) → ((entity_at t f).live ≡ true) × (is_root f ≡ false)
        alive f k z = (live, is_false _ (λ r. let q = (N f k).root r in z (rw (key_live f k live) (omega arith))))
          where
            live : (entity_at t f).live ≡ true
            live = of_not_false _ (is_false _ (λ d. z (rw (key_dead f k (of_not_true _ d)))))

        go : (b : Bool) → eqb (get_or keys e 0 % 65536) 0 ≡ b → own_key keys e ≡ true
        go true z = either_l _ _ z
        go false z = either_r _ _ (all_i 16 _ (λ m b. implies_i _ _ (λ h. same (e / 16 * 16 + m) (omega arith) (eqb-true _ _ h) (eqb (e / 16 * 16 + m) e) refl)))
          where
            same : (f : ℕ) → f < 64 → get_or keys f 0 ≡ get_or keys e 0 → (b : Bool) → eqb f e ≡ b → eqb f e ≡ true
            same f k q true d = d
            same f k q false d =
                let nz = eqb-false (get_or keys e 0 % 65536) 0 z in
                let (live, other) = alive e l nz in
                let (live', other') = alive f k (λ y. nz (rw q at y)) in
                let kf = key_live f k live' in
                let ke = key_live e l live in
                let p : (entity_at t f).parent ≡ (entity_at t e).parent = omega (arith, (N e l).name, (N f k).name) in
                let m : (entity_at t f).name ≡ (entity_at t e).name = omega (arith, (N e l).name, (N f k).name) in
                absurd (clash _ (eq-eqb _ _ m) (own live other f k (eqb-false f e d) (every_i _ (live', (not_of_false _ other', (eq-eqb _ _ p, tt))))))
