-- A role that passes its test is as soundness asks, where the live entities are known.
--     Live                 the set of the live entities
--     role_masked          the test by a mask of the role's level
--     role_e, role_i       the test says RoleOk, and no more
-- Assumes nothing.
use Prim.Native.Nat.{ℕ, ◌^◌, ◌<◌}
use mathlib.Core.Bool.{Bool, true, false, not, ◌||◌, and-true}
use mathlib.Core.List.{[], ◌∷◌}
use mathlib.Core.Logic.{⊎_elim}
use mathlib.Core.Path.{◌≡◌, refl, sym, ap, ◌∙◌}
use native.Mathlib.Omega.{arith}
use lib.Bits.{bit_and}
use lib.Dec.{leb, ltb, eqb}
use borrow.Author.Tests.{eqb-true, ltb-true, eq-eqb, lt-ltb}
use Rattle.bitset.specs.Tests.{every, either, implies}
use Rattle.bitset.specs.Tests.Laws.{clash, is_false, not_of_false, of_not_true, every_i, every_at, either_l, either_r, either_e, implies_i, implies_e, all_i, all_e, all_cong, or_l, or_r}
use Rattle.bitset.specs.Sets.{has, join, contains}
use Rattle.bitset.specs.Sets.Laws.{sets_ext, has_none, has_meet, has_join, has_below, join_lt, join_none, has_contains, contains_has, contains_trans, contains_le}
use Rattle.guard.specs.Level.{role_level, entity_level, is_keeper}
use Rattle.guard.specs.Tables.{entity_at}
use Rattle.guard.specs.Private.Tested.{grantable_in, rights_set, members, role_test}
use Rattle.guard.specs.declared.Role.{Role}
use Rattle.guard.specs.declared.Tables.{Tables}
use Rattle.guard.proofs.Laws.Sound.Facts.{RoleOk, SetOk, grantable}

abbrev pub Live : Tables → ℕ → Type 0
Live t live = (e : ℕ) → e < 64 → has live e ≡ (entity_at t e).live

role_cong : (f g : ℕ → Bool) (r : ℕ) (p : Role) → ((e : ℕ) → e < 64 → f e ≡ g e) → role_test f r p ≡ role_test g r p
role_cong f g r p h =
    ap (λ (b : Bool). every (ltb p.users (2 ^ 16) ∷ ltb p.juniors (2 ^ 16) ∷ ltb (rights_set p) (2 ^ 64) ∷ either p.live (every (not (is_keeper r) ∷ eqb p.users 0 ∷ eqb p.juniors 0 ∷ [])) ∷ b ∷ []))
    (all_cong 64 _ _ (λ e l. ap (λ (b : Bool). implies (has (rights_set p) e) (every (p.live ∷ b ∷ []))) (h e l)))

-- of the entities in m, which are those of at most the role's level, those that are live
pub role_masked : (live m r : ℕ) (p : Role) → ((e : ℕ) → e < 64 → has m e ≡ leb (entity_level e) (role_level r))
    → role_test (has (bit_and live m)) r p ≡ role_test (grantable_in live r) r p
unfolding every
role_masked live m r p f = role_cong (has (bit_and live m)) (grantable_in live r) r p at
  where
    at : (e : ℕ) → e < 64 → has (bit_and live m) e ≡ grantable_in live r e
    at e l = rw (has_meet, f e l) (simp and-true)

-- ---- two sets joined
join_l : (a b : ℕ) → contains (join a b) a ≡ true
join_l a b = has_contains _ _ (λ i h. has_join a b i ∙ or_l _ _ h)

join_r : (a b : ℕ) → contains (join a b) b ≡ true
join_r a b = has_contains _ _ (λ i h. has_join a b i ∙ or_r (has a i) _ h)

-- ---- a role
module _ (t : Tables) (live : ℕ) (L : Live t live) (r : ℕ) (p : Role) where
  abbrev Granted : ℕ → Type 0
  Granted s = SetOk 64 p.live (λ e. grantable r e (entity_at t e)) s

  -- each of the four sets is a part of the whole
  part : rights_set p < 2 ^ 64 → members (λ e. every (p.live ∷ grantable_in live r e ∷ [])) (rights_set p) ≡ true
      → (s : ℕ) → contains (rights_set p) s ≡ true → Granted s
  part small h s c = record {
    small = omega (arith, contains_le _ _ c);
    none = λ d. sets_ext s 0 (λ i. is_false _ (λ m. clash _ (every_at _ (at i m) 0) d) ∙ sym (has_none i));
    members = λ e l m.
        let met = every_at _ (every_at _ (at e m) 1) in
        every_i _ (sym (L e l) ∙ met 0, (met 1, tt));
  }
    where
      at : (i : ℕ) → has s i ≡ true → every (p.live ∷ grantable_in live r i ∷ []) ≡ true
      at i m = let k = contains_has _ _ c i m in implies_e _ _ (all_e 64 _ h i (has_below 64 _ i small k)) k

  pub role_e : role_test (grantable_in live r) r p ≡ true → RoleOk t.entities r p
  role_e h =
      let test = every_at _ h in
      let set = part (ltb-true _ _ (test 2)) (test 4) in
      let three = join_l (join (join p.reads p.writes) p.executes) p.owns in
      let two = contains_trans _ _ _ three (join_l (join p.reads p.writes) p.executes) in
      record {
        keeper = λ k. ⊎_elim (λ live. live) (λ x. absurd (clash _ k (of_not_true _ (every_at _ x 0)))) (either_e _ _ (test 3));
        users = record {
          small = ltb-true _ _ (test 0);
          none = λ d. ⊎_elim (λ live. absurd (clash _ live d)) (λ x. eqb-true _ _ (every_at _ x 1)) (either_e _ _ (test 3));
          members = λ u k m. refl;
        };
        juniors = record {
          small = ltb-true _ _ (test 1);
          none = λ d. ⊎_elim (λ live. absurd (clash _ live d)) (λ x. eqb-true _ _ (every_at _ x 2)) (either_e _ _ (test 3));
          members = λ j k m. refl;
        };
        reads = set _ (contains_trans _ _ _ two (join_l p.reads p.writes));
        writes = set _ (contains_trans _ _ _ two (join_r p.reads p.writes));
        executes = set _ (contains_trans _ _ _ three (join_r (join p.reads p.writes) p.executes));
        owns = set _ (join_r (join (join p.reads p.writes) p.executes) p.owns);
      }

  -- the sets joined are as each of them
  joined : (a b : ℕ) → Granted a → Granted b → Granted (join a b)
  joined a b p q = record {
    small = join_lt 64 a b p.small q.small;
    none = λ d. rw (p.none d, q.none d) (join_none 0);
    members = λ e l m. go e l (has a e) refl (sym (has_join a b e) ∙ m);
  }
    where
      go : (e : ℕ) → e < 64 → (h : Bool) → has a e ≡ h → (has a e || has b e) ≡ true → grantable r e (entity_at t e) ≡ true
      go e l true h m = p.members e l h
      go e l false h m = q.members e l (rw h at m)

  pub role_i : RoleOk t.entities r p → role_test (grantable_in live r) r p ≡ true
  role_i ok =
      every_i _ (
        lt-ltb _ _ ok.users.small,
        (
          lt-ltb _ _ ok.juniors.small,
          (
            lt-ltb _ _ set.small,
            (idle p.live refl, (all_i 64 _ (λ e l. implies_i _ _ (λ m. within e l m p.live refl)), tt)),
          ),
        ),
      )
    where
      set : Granted (rights_set p)
      set = joined _ _ (joined _ _ (joined _ _ ok.reads ok.writes) ok.executes) ok.owns

      idle : (b : Bool) → p.live ≡ b → either p.live (every (not (is_keeper r) ∷ eqb p.users 0 ∷ eqb p.juniors 0 ∷ [])) ≡ true
      idle true live = either_l _ _ live
      idle false dead = either_r _ _ (every_i _ (not_of_false _ (is_false _ (λ k. clash _ (ok.keeper k) dead)), (eq-eqb _ _ (ok.users.none dead), (eq-eqb _ _ (ok.juniors.none dead), tt))))

      within : (e : ℕ) → e < 64 → has (rights_set p) e ≡ true → (b : Bool) → p.live ≡ b → every (p.live ∷ grantable_in live r e ∷ []) ≡ true
      within e l m true alive =
          let grant = every_at _ (set.members e l m) in
          every_i _ (alive, (every_i _ (L e l ∙ grant 0, (grant 1, tt)), tt))
      within e l m false dead = absurd (clash (has 0 e) (rw (set.none dead) at m) (has_none e))
