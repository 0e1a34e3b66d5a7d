-- The chain of parents: the walk of specs/Chain, which stops after sixteen steps, is the paper's chain of any number of
-- steps, and asks its test of exactly the containers above.
--     ancestor, ancestor_parent, ancestor_add       the n-th parent up from e
--     climbs_root, climbs_up, climbs_cases          one step of the walk
--     Ends, ends_somewhere, ends_by                 a walk that ends meets a root, and one that is long enough ends
--     ends_within, ends_iff                         "a chain of parents that ends at the root": in one level the walk ends if the chain does
--     Above, above_root, above_parent, above_up, above_cases        the containers above e, up to and with the root; of a root there is none
--     climbs_iff, reaches_iff                       the walk asks p of exactly the containers above: "x reaches e"
--     climbs_cong, climbs_same, ancestor_same       two walks over one chain
-- Assumes nothing.
use Prim.Native.Nat.{ℕ, zero, suc, ◌+◌, ◌-◌, ◌/◌, ◌%◌, ◌≤◌, ◌<◌}
use mathlib.Core.Path.{◌≡◌, refl, ap, sym, ◌∙◌}
use mathlib.Core.Bool.{Bool, true, false}
use mathlib.Core.Logic.{◌⊎◌, inl, inr, ⊎_elim, ◌↔◌}
use native.Mathlib.Decide.{dec_le}
use native.Mathlib.Nat.{zero-add, suc-add}
use native.Mathlib.Omega.{arith}
use Rattle.bitset.specs.Tests.Laws.{decide, clash, either_l, either_r, either_e, every_i, every_at}
use Rattle.guard.specs.Level.{is_root, entities_per_level}
use Rattle.guard.specs.Tables.{has_right, execute}
use Rattle.guard.specs.Chain.{climbs, parent_of, ends_at_root, reaches}
use Rattle.guard.specs.declared.Tables.{Tables}
use Rattle.guard.proofs.Laws.Pigeons.{Meet, pigeons}

abbrev pub ancestor : (ℕ → ℕ) → ℕ → ℕ → ℕ
ancestor parent zero e = e
ancestor parent (suc n) e = ancestor parent n (parent e)

pub ancestor_parent : (parent : ℕ → ℕ) (n e : ℕ) → ancestor parent (suc n) e ≡ parent (ancestor parent n e)
ancestor_parent parent zero e = refl
ancestor_parent parent (suc n) e = ancestor_parent parent n (parent e)

pub ancestor_add : (parent : ℕ → ℕ) (n m e : ℕ) → ancestor parent (n + m) e ≡ ancestor parent m (ancestor parent n e)
ancestor_add parent zero m e = rw zero-add
ancestor_add parent (suc n) m e = rw suc-add (ancestor_add parent n m (parent e))

no_step : (m : ℕ) → suc m ≤ 0 → ⊥
no_step m l = omega arith

-- ---- one step of the walk
module _ (parent : ℕ → ℕ) (p : ℕ → Bool) where
  pub climbs_root : (n e : ℕ) → is_root e ≡ true → climbs parent p n e ≡ true
  unfolding climbs
  climbs_root zero e h = h
  climbs_root (suc n) e h = either_l _ _ h

  pub climbs_up : (n e : ℕ) → p (parent e) ≡ true → climbs parent p n (parent e) ≡ true → climbs parent p (suc n) e ≡ true
  unfolding climbs
  climbs_up n e h k = either_r _ _ (every_i _ (h, (k, tt)))

  pub climbs_cases : (n e : ℕ) → climbs parent p (suc n) e ≡ true
      → (is_root e ≡ true) ⊎ ((p (parent e) ≡ true) × (climbs parent p n (parent e) ≡ true))
  unfolding climbs
  climbs_cases n e h = ⊎_elim inl (λ k. inr (every_at _ k 0, every_at _ k 1)) (either_e _ _ h)

-- ---- the walk ends if the chain does
-- a root stands at most n steps up
abbrev pub Ends : (ℕ → ℕ) → ℕ → ℕ → Type 0
Ends parent n e = (k : ℕ) × (k ≤ n) × (is_root (ancestor parent k e) ≡ true)

pub ends_somewhere : (parent : ℕ → ℕ) (p : ℕ → Bool) (n e : ℕ) → climbs parent p n e ≡ true → Ends parent n e
unfolding climbs
ends_somewhere parent p zero e h = (0, omega arith, h)
ends_somewhere parent p (suc n) e h = go (climbs_cases parent p n e h) (λ k. ends_somewhere parent p n (parent e) k)
  where
    go : (is_root e ≡ true) ⊎ ((p (parent e) ≡ true) × (climbs parent p n (parent e) ≡ true))
        → (climbs parent p n (parent e) ≡ true → Ends parent n (parent e)) → Ends parent (suc n) e
    go (inl r) more = (0, omega arith, r)
    go (inr (u, v)) more = let (k, l, r) = more v in (suc k, omega arith, r)

-- a root m steps up is met by a walk of that many steps
pub ends_by : (parent : ℕ → ℕ) (m n e : ℕ) → m ≤ n → is_root (ancestor parent m e) ≡ true → climbs parent (λ c. true) n e ≡ true
ends_by parent zero n e l h = climbs_root parent (λ c. true) n e h
ends_by parent (suc m) zero e l h = absurd (no_step m l)
ends_by parent (suc m) (suc n) e l h = climbs_up parent (λ c. true) n e refl (ends_by parent m n (parent e) (omega arith) h)

-- the parents stay in the level of e: of seventeen ancestors two are one, so an ancestor past them stands nearer too
module _ (parent : ℕ → ℕ) (e : ℕ) (stays : (n : ℕ) → ancestor parent n e / 16 ≡ e / 16) where
  nearer : (n : ℕ) → 16 ≤ n → (m : ℕ) × (m < n) × (ancestor parent m e ≡ ancestor parent n e)
  nearer n l = go (pigeons 16 (λ k. ancestor parent k e % 16) (λ k h. omega arith))
    where
      go : Meet (λ k. ancestor parent k e % 16) 16 → (m : ℕ) × (m < n) × (ancestor parent m e ≡ ancestor parent n e)
      go (i, j, less, most, same) =
          let meet : ancestor parent i e ≡ ancestor parent j e = omega (arith, stays i, stays j) in
          let whole : j + (n - j) ≡ n = omega arith in
          (i + (n - j), omega arith, rw (ancestor_add, meet, ← ancestor_add, whole))

  root_near : (bound n : ℕ) → n ≤ bound → is_root (ancestor parent n e) ≡ true → Ends parent 16 e
  root_near zero n l h = (n, omega arith, h)
  root_near (suc bound) n l h = go (dec_le n 16) (λ m k r. root_near bound m k r)
    where
      go : Dec (n ≤ 16) → ((m : ℕ) → m ≤ bound → is_root (ancestor parent m e) ≡ true → Ends parent 16 e) → Ends parent 16 e
      go (yes near) more = (n, near, h)
      go (no far) more = let (m, less, same) = nearer n (omega arith) in more m (omega arith) (ap is_root same ∙ h)

  pub ends_within : (n : ℕ) → is_root (ancestor parent n e) ≡ true → climbs parent (λ c. true) entities_per_level e ≡ true
  ends_within n h = let (m, l, r) = root_near n n (omega arith) h in ends_by parent m 16 e l r

  pub ends_iff : climbs parent (λ c. true) entities_per_level e ≡ true ↔ (n : ℕ) × (is_root (ancestor parent n e) ≡ true)
  ends_iff = (λ h. let (k, l, r) = ends_somewhere parent (λ c. true) 16 e h in (k, r), λ (n, h). ends_within n h)

-- ---- the containers above e: some steps up, and no root before
abbrev pub Above : (ℕ → ℕ) → ℕ → ℕ → Type 0
Above parent e c = (k : ℕ) × ((j : ℕ) → j ≤ k → is_root (ancestor parent j e) ≡ false) × (c ≡ ancestor parent (suc k) e)

pub above_root : (parent : ℕ → ℕ) (e c : ℕ) → is_root e ≡ true → Above parent e c → ⊥
above_root parent e c h (k, below, at) = clash (is_root e) h (below 0 (omega arith))

pub above_parent : (parent : ℕ → ℕ) (e : ℕ) → is_root e ≡ false → Above parent e (parent e)
above_parent parent e h = (0, only, refl)
  where
    only : (j : ℕ) → j ≤ 0 → is_root (ancestor parent j e) ≡ false
    only zero l = h
    only (suc j) l = absurd (no_step j l)

pub above_up : (parent : ℕ → ℕ) (e c : ℕ) → is_root e ≡ false → Above parent (parent e) c → Above parent e c
above_up parent e c h (k, below, at) = (suc k, lower, at)
  where
    lower : (j : ℕ) → j ≤ suc k → is_root (ancestor parent j e) ≡ false
    lower zero l = h
    lower (suc j) l = below j (omega arith)

pub above_cases : (parent : ℕ → ℕ) (e c : ℕ) → Above parent e c → (c ≡ parent e) ⊎ Above parent (parent e) c
above_cases parent e c (zero, below, at) = inl at
above_cases parent e c (suc k, below, at) = inr (k, λ j l. below (suc j) (omega arith), at)

-- ---- the walk asks p of exactly the containers above
module _ (parent : ℕ → ℕ) (p : ℕ → Bool) where
  -- p holds of each container above e
  abbrev Clear : ℕ → Type 0
  Clear e = (c : ℕ) → Above parent e c → p c ≡ true

  clear_of_climbs : (n e : ℕ) → climbs parent p n e ≡ true → (climbs parent (λ c. true) n e ≡ true) × Clear e
  unfolding climbs
  clear_of_climbs zero e h = (h, λ c a. absurd (above_root parent e c h a))
  clear_of_climbs (suc n) e h = go (climbs_cases parent p n e h) (λ k. clear_of_climbs n (parent e) k)
    where
      go : (is_root e ≡ true) ⊎ ((p (parent e) ≡ true) × (climbs parent p n (parent e) ≡ true))
          → (climbs parent p n (parent e) ≡ true → (climbs parent (λ c. true) n (parent e) ≡ true) × Clear (parent e))
          → (climbs parent (λ c. true) (suc n) e ≡ true) × Clear e
      go (inl r) more = (climbs_root parent (λ c. true) (suc n) e r, λ c a. absurd (above_root parent e c r a))
      go (inr (u, v)) more =
          let (ends, clear) = more v in
          (climbs_up parent (λ c. true) n e refl ends, λ c a. ⊎_elim (λ s. rw s u) (clear c) (above_cases parent e c a))

  climbs_of_clear : (n e : ℕ) → climbs parent (λ c. true) n e ≡ true → Clear e → climbs parent p n e ≡ true
  unfolding climbs
  climbs_of_clear zero e h clear = h
  climbs_of_clear (suc n) e h clear =
      go (decide (is_root e)) (climbs_cases parent (λ c. true) n e h)
      (λ k l. climbs_of_clear n (parent e) k (λ c a. clear c (above_up parent e c l a)))
    where
      go : (is_root e ≡ true) ⊎ (is_root e ≡ false) → (is_root e ≡ true) ⊎ ((true ≡ true) × (climbs parent (λ c. true) n (parent e) ≡ true))
          → (climbs parent (λ c. true) n (parent e) ≡ true → is_root e ≡ false → climbs parent p n (parent e) ≡ true)
          → climbs parent p (suc n) e ≡ true
      go (inl r) ends more = climbs_root parent p (suc n) e r
      go (inr r) (inl q) more = absurd (clash (is_root e) q r)
      go (inr r) (inr (u, v)) more = climbs_up parent p n e (clear (parent e) (above_parent parent e r)) (more v r)

  pub climbs_iff : (n e : ℕ) → climbs parent p n e ≡ true ↔ (climbs parent (λ c. true) n e ≡ true) × ((c : ℕ) → Above parent e c → p c ≡ true)
  climbs_iff n e = (clear_of_climbs n e, λ (h, clear). climbs_of_clear n e h clear)

pub reaches_iff : (t : Tables) (x e : ℕ) → ends_at_root t e ≡ true
    → (reaches t x e ≡ true ↔ ((c : ℕ) → Above (parent_of t) e c → has_right t x execute c ≡ true))
unfolding ends_at_root reaches
reaches_iff t x e ends =
    let (forth, back) = climbs_iff (parent_of t) (has_right t x execute) 16 e in (λ h. (forth h).1, λ clear. back (ends, clear))

-- ---- two walks over one chain
pub climbs_cong : (parent parent' : ℕ → ℕ) (p p' : ℕ → Bool) (n e : ℕ)
    → ((k : ℕ) → is_root (ancestor parent k e) ≡ false → parent' (ancestor parent k e) ≡ parent (ancestor parent k e))
    → ((c : ℕ) → Above parent e c → p' c ≡ p c) → climbs parent' p' n e ≡ climbs parent p n e
unfolding climbs
climbs_cong parent parent' p p' zero e f g = refl
climbs_cong parent parent' p p' (suc n) e f g =
    go (decide (is_root e))
    (λ h. climbs_cong parent parent' p p' n (parent e) (λ k. f (suc k)) (λ c a. g c (above_up parent e c h a)))
  where
    go : (is_root e ≡ true) ⊎ (is_root e ≡ false) → (is_root e ≡ false → climbs parent' p' n (parent e) ≡ climbs parent p n (parent e))
        → climbs parent' p' (suc n) e ≡ climbs parent p (suc n) e
    go (inl r) more = climbs_root parent' p' (suc n) e r ∙ sym (climbs_root parent p (suc n) e r)
    go (inr r) more = rw (f 0 r, more r, g (parent e) (above_parent parent e r))

pub climbs_same : (parent parent' : ℕ → ℕ) (n e : ℕ) → ((k : ℕ) → parent' (ancestor parent k e) ≡ parent (ancestor parent k e))
    → climbs parent' (λ c. true) n e ≡ climbs parent (λ c. true) n e
climbs_same parent parent' n e f = climbs_cong parent parent' (λ c. true) (λ c. true) n e (λ k h. f k) (λ c a. refl)

pub ancestor_same : (parent parent' : ℕ → ℕ) (n e : ℕ) → ((k : ℕ) → parent' (ancestor parent k e) ≡ parent (ancestor parent k e))
    → ancestor parent' n e ≡ ancestor parent n e
ancestor_same parent parent' zero e f = refl
ancestor_same parent parent' (suc n) e f = rw (f 0) (ancestor_same parent parent' n (parent e) (λ k. f (suc k)))
