-- Soundness with the paper's own chains in it, of any number of parents and of ties, and "x reaches e" in sound tables.
--     PlacedInWords, SoundInWords     soundness, sentence by sentence, with "a chain of parents that ends at the root" unbounded
--     sound_iff                       the test `sound` says this, and no more
--     reaches_above                   "x reaches e": x has execute on every container above e, up to and with the root
-- Assumes nothing.
use Prim.Native.Nat.{ℕ, zero, suc, ◌≤◌, ◌<◌}
use mathlib.Core.Path.{◌≡◌, refl, ap, ◌∙◌}
use mathlib.Core.Bool.{true, false}
use mathlib.Core.Logic.{◌⊎◌, inl, inr, ◌↔◌}
use native.Mathlib.Decide.{dec_lt}
use native.Mathlib.Omega.{arith}
use lib.ListN.{length, get_or-eq_default}
use borrow.Author.Tests.{leb-true, le-leb, eqb-true, eq-eqb}
use Rattle.bitset.specs.Tests.Laws.{decide, clash, is_false, not_of_false, of_not_true, every_i, every_at, implies_i, implies_e, all_i, all_e}
use Rattle.guard.specs.Level.{role_count, entity_count, entity_level, is_root}
use Rattle.guard.specs.Label.{dominates}
use Rattle.guard.specs.Tables.{no_entity, entity_at, container, execute, is_junior, has_right}
use Rattle.guard.specs.Chain.{parent_of, ends_at_root, reaches}
use Rattle.guard.specs.Sound.{fields_in_range_in, is_root_record, roots_as_said, keepers_as_said, has_own_name, is_placed, entities_placed, objects_unshared, dead_are_empty, dead_are_unused, rights_within, reading_within, writing_within, opens_backed, ties_join, none_below_itself, sound, sound_in}
use Rattle.guard.specs.Private.InForce.{fields_in_range}
use Rattle.guard.specs.declared.Entity.{Entity}
use Rattle.guard.specs.declared.Tables.{Tables}
use Rattle.guard.proofs.Laws.Below.{Below, below_e, below_i}
use Rattle.guard.proofs.Laws.Chain.{ancestor, climbs_root, ends_somewhere, ends_iff, Above, reaches_iff}
use Rattle.guard.proofs.Laws.Sound.{◌also◌, no_more, every_of}

-- A live entity that is no root has ..
pub record PlacedInWords (t : Tables) (e : ℕ) : Type 0 where
  -- a name from 1,
  pub name : 1 ≤ (entity_at t e).name
  -- a live container of its own level as parent,
  pub live : (entity_at t (parent_of t e)).live ≡ true
  pub kind : (entity_at t (parent_of t e)).kind ≡ container
  pub level : entity_level (parent_of t e) ≡ entity_level e
  -- a label that dominates its parent's,
  pub label : dominates (entity_at t e).label (entity_at t (parent_of t e)).label ≡ true
  -- a name no sibling has,
  pub own_name : has_own_name t e ≡ true
  -- and a chain of parents that ends at the root: some number of parents up stands a root.
  pub chain : (n : ℕ) × (is_root (ancestor (parent_of t) n e) ≡ true)

-- Tables are sound when all of this holds.
pub record SoundInWords (t : Tables) : Type 0 where
  pub fields : fields_in_range t ≡ true
  pub roots : roots_as_said t ≡ true
  pub keepers : keepers_as_said t ≡ true
  pub placed : (e : ℕ) → e < entity_count → (entity_at t e).live ≡ true → is_root e ≡ false → PlacedInWords t e
  pub marks : objects_unshared t ≡ true
  pub empty : dead_are_empty t ≡ true
  pub unused : dead_are_unused t ≡ true
  pub rights : rights_within t ≡ true
  pub reading : reading_within t ≡ true
  pub writing : writing_within t ≡ true
  pub backed : opens_backed t ≡ true
  -- Ties join live roles of one level, and no role is below itself, by however many ties.
  pub ties : ties_join t ≡ true
  pub no_cycle : (r : ℕ) → r < role_count → Below (is_junior t) r r → ⊥

-- a live entity that is no root is placed
placed_of : (t : Tables) → sound t ≡ true → (e : ℕ) → e < 64 → (entity_at t e).live ≡ true → is_root e ≡ false → is_placed t e ≡ true
unfolding sound_in entities_placed
placed_of t h e l live other = implies_e _ _ (all_e 64 _ (every_at _ h 3) e l) (every_i _ (live, (not_of_false _ other, tt)))

in_words : (t : Tables) (e : ℕ) → is_placed t e ≡ true → PlacedInWords t e
unfolding is_placed ends_at_root
in_words t e h =
    let (n, l, root) = ends_somewhere (parent_of t) (λ c. true) 16 e (every_at _ h 6) in
    record {
      name = leb-true _ _ (every_at _ h 0);
      live = every_at _ h 1;
      kind = eqb-true _ _ (every_at _ h 2);
      level = eqb-true _ _ (every_at _ h 3);
      label = every_at _ h 4;
      own_name = every_at _ h 5;
      chain = (n, root);
    }

-- ---- the chain stays in the level: each live entity that is no root lies in a live one of its level, and a root in itself
module _ (t : Tables) (words : SoundInWords t) where
  up : (c : ℕ) → c < 64 → (entity_at t c).live ≡ true → ((entity_at t (parent_of t c)).live ≡ true) × (entity_level (parent_of t c) ≡ entity_level c)
  unfolding roots_as_said is_root_record
  up c l live = go (decide (is_root c))
    where
      go : (is_root c ≡ true) ⊎ (is_root c ≡ false) → ((entity_at t (parent_of t c)).live ≡ true) × (entity_level (parent_of t c) ≡ entity_level c)
      go (inl root) =
          let itself : parent_of t c ≡ c = eqb-true _ _ (every_at _ (implies_e _ _ (all_e 64 _ words.roots c l) root) 4) in
          (rw itself live, ap entity_level itself)
      go (inr other) = let p = words.placed c l live other in (p.live, p.level)

  stays : (n e : ℕ) → e < 64 → (entity_at t e).live ≡ true → entity_level (ancestor (parent_of t) n e) ≡ entity_level e
  stays zero e l live = refl
  stays (suc n) e l live = let (alive, level) = up e l live in stays n (parent_of t e) (omega arith) alive ∙ level

  placed_i : (e : ℕ) → e < 64 → (entity_at t e).live ≡ true → is_root e ≡ false → is_placed t e ≡ true
  unfolding is_placed ends_at_root
  placed_i e l live other =
      let p = words.placed e l live other in
      every_of _
      (le-leb _ _ p.name
      also p.live
      also eq-eqb _ _ p.kind
      also eq-eqb _ _ p.level
      also p.label
      also p.own_name
      also (ends_iff (parent_of t) e (λ k. stays k e l live)).1 p.chain
      also no_more)

  sound_of : sound t ≡ true
  unfolding sound_in entities_placed none_below_itself
  sound_of =
      every_of _
      (words.fields
      also words.roots
      also words.keepers
      also all_i 64 _ (λ e l. implies_i _ _ (λ h. placed_i e l (every_at _ h 0) (of_not_true _ (every_at _ h 1))))
      also words.marks
      also words.empty
      also words.unused
      also words.rights
      also words.reading
      also words.writing
      also words.backed
      also words.ties
      also all_i 16 _ (λ r l. not_of_false _ (is_false _ (λ b. words.no_cycle r l (below_e _ r r b))))
      also no_more)

pub sound_iff : (t : Tables) → (sound t ≡ true ↔ SoundInWords t)
unfolding sound_in none_below_itself
sound_iff t = (forth, sound_of t)
  where
    forth : sound t ≡ true → SoundInWords t
    forth h =
        record {
          fields = every_at _ h 0;
          roots = every_at _ h 1;
          keepers = every_at _ h 2;
          placed = λ e l live other. in_words t e (placed_of t h e l live other);
          marks = every_at _ h 4;
          empty = every_at _ h 5;
          unused = every_at _ h 6;
          rights = every_at _ h 7;
          reading = every_at _ h 8;
          writing = every_at _ h 9;
          backed = every_at _ h 10;
          ties = every_at _ h 11;
          no_cycle = λ r l b. clash _ (below_i _ r r l b) (of_not_true _ (all_e 16 _ (every_at _ h 12) r l));
        }

-- ---- "x reaches e" means that x has execute on every container above e, up to and with the root; for a root there is none
-- above.
-- past the last entity none is live
live_below : (t : Tables) → sound t ≡ true → (e : ℕ) → (entity_at t e).live ≡ true → e < 64
unfolding sound_in fields_in_range_in
live_below t h e live = go (dec_lt e 64)
  where
    long : length t.entities ≡ 64
    long = eqb-true _ _ (every_at _ (every_at _ h 0) 5)

    go : Dec (e < 64) → e < 64
    go (yes l) = l
    go (no l) =
        let past : length t.entities ≤ e = omega (arith, long) in
        absurd (clash _ live (ap (λ (n : Entity). n.live) (get_or-eq_default t.entities no_entity past)))

ends : (t : Tables) → sound t ≡ true → (e : ℕ) → (entity_at t e).live ≡ true → ends_at_root t e ≡ true
unfolding is_placed ends_at_root
ends t h e live = go (decide (is_root e))
  where
    go : (is_root e ≡ true) ⊎ (is_root e ≡ false) → ends_at_root t e ≡ true
    go (inl root) = climbs_root (parent_of t) (λ c. true) 16 e root
    go (inr other) = every_at _ (placed_of t h e (live_below t h e live) live other) 6

pub reaches_above : (t : Tables) → sound t ≡ true → (x e : ℕ) → (entity_at t e).live ≡ true
    → (reaches t x e ≡ true ↔ ((c : ℕ) → Above (parent_of t) e c → has_right t x execute c ≡ true))
reaches_above t h x e live = reaches_iff t x e (ends t h e live)
