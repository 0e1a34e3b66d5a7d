-- Grant and revoke change the sets of the rights named, and no other.
--     granted, revoked, owned       .. are the rights joined, taken away, and own joined
-- Assumes nothing.
use Prim.Native.Nat.{ℕ, ◌^◌}
use mathlib.Core.Path.{◌≡◌, refl, sym, ◌∙◌}
use mathlib.Core.Bool.{Bool, true, false, not, cond, ◌&&◌, ◌||◌, or-true, or-false, and-true, and-false}
use borrow.Author.Tests.{eqb-true, eq-eqb}
use Rattle.bitset.specs.Tests.Laws.{both}
use Rattle.bitset.specs.Sets.{has, contains, join, minus}
use Rattle.bitset.specs.Sets.Laws.{has_one, has_join, has_minus, contains_has, has_contains}
use Rattle.guard.specs.Tables.{own, rights_of}
use Rattle.guard.specs.Edits.{put_in, set_rights, add_rights, remove_rights}
use Rattle.guard.specs.Private.Inside.{set_after, granted_after, owning}
use Rattle.guard.specs.declared.Role.{Role}
use Rattle.guard.proofs.Laws.Rights.{contains_read, contains_write, contains_execute, contains_own, put_same}

-- a single right is one bit
contains_one : (x k : ℕ) → contains x (2 ^ k) ≡ has x k
contains_one x k =
    both _ _ (λ h. contains_has x (2 ^ k) h k (has_one k k ∙ eq-eqb k k refl))
    (λ h. has_contains x (2 ^ k) (λ i e. rw (eqb-true i k (sym (has_one k i) ∙ e)) h))

-- one set, of the right at bit i
module _ (i old m e s : ℕ) (same : contains old (2 ^ i) ≡ has s e) where
  bit : has old i ≡ has s e
  bit = sym (contains_one old i) ∙ same

  joined : contains (join old m) (2 ^ i) ≡ (has s e || contains m (2 ^ i))
  joined = contains_one (join old m) i ∙ rw (has_join, bit, ← contains_one m i)

  lost : contains (minus old m) (2 ^ i) ≡ (has s e && not (contains m (2 ^ i)))
  lost = contains_one (minus old m) i ∙ rw (has_minus, bit, ← contains_one m i)

  grant_set : put_in (contains (join old m) (2 ^ i)) e s ≡ set_after true (contains m (2 ^ i)) e s
  unfolding set_after
  grant_set = rw joined (go (contains m (2 ^ i)))
    where
      go : (b : Bool) → put_in (has s e || b) e s ≡ cond b (put_in true e s) s
      go true = rw (or-true (has s e))
      go false = rw (or-false (has s e)) (put_same e s)

  revoke_set : put_in (contains (minus old m) (2 ^ i)) e s ≡ set_after false (contains m (2 ^ i)) e s
  unfolding set_after
  revoke_set = rw lost (go (contains m (2 ^ i)))
    where
      go : (b : Bool) → put_in (has s e && not b) e s ≡ cond b (put_in false e s) s
      go true = rw (and-false (has s e))
      go false = rw (and-true (has s e)) (put_same e s)

module _ (e : ℕ) (p : Role) where
  pub granted : (m : ℕ) → granted_after true m e p ≡ add_rights e m p
  unfolding granted_after add_rights set_rights
  granted m =
      rw (
        grant_set 0 (rights_of p e) m e p.reads (contains_read p e),
        grant_set 1 (rights_of p e) m e p.writes (contains_write p e),
        grant_set 2 (rights_of p e) m e p.executes (contains_execute p e),
        grant_set 3 (rights_of p e) m e p.owns (contains_own p e),
      )

  pub revoked : (m : ℕ) → granted_after false m e p ≡ remove_rights e m p
  unfolding granted_after remove_rights set_rights
  revoked m =
      rw (
        revoke_set 0 (rights_of p e) m e p.reads (contains_read p e),
        revoke_set 1 (rights_of p e) m e p.writes (contains_write p e),
        revoke_set 2 (rights_of p e) m e p.executes (contains_execute p e),
        revoke_set 3 (rights_of p e) m e p.owns (contains_own p e),
      )

  pub owned : owning e p ≡ add_rights e own p
  unfolding granted_after set_after put_in contains
  owned = granted own
