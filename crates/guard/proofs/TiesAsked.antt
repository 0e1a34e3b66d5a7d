-- What 15 and 22 ask of the ties, by the scans, is what they ask of the tables.
--     tied_of         unmake: the role has a junior or a senior
--     cycle_of        join: the senior is the junior, or below it
-- Assumes nothing.
use Prim.Native.Nat.{ℕ, ◌^◌, ◌<◌}
use mathlib.Core.Path.{◌≡◌, refl, sym, ap, ◌∙◌}
use mathlib.Core.Bool.{Bool, true, not}
use mathlib.Core.List.{[], ◌∷◌}
use mathlib.Core.Logic.{⊎_elim}
use native.Mathlib.Omega.{arith}
use lib.Count.{count_trailing_zeros}
use lib.Dec.{eqb}
use borrow.Author.Tests.{eqb-true, eqb-false, eq-eqb}
use Rattle.bitset.specs.Tests.{every, either, some}
use Rattle.bitset.specs.Tests.Laws.{both, clash, is_false, not_of_false, of_not_true, either_l, either_r, either_e, every_i, every_at, some_i, some_e}
use Rattle.bitset.specs.Sets.{has}
use Rattle.bitset.specs.Sets.Laws.{has_none}
use Rattle.guard.specs.Below.{below, or_below}
use Rattle.guard.specs.Tables.{role_at}
use Rattle.guard.specs.Conditions.{role_tied, closes_cycle}
use Rattle.guard.specs.Private.Scan.{tie_by, senior_by}
use Rattle.guard.specs.declared.Tables.{Tables}
use Rattle.guard.specs.declared.Request.{Request}
use Rattle.guard.proofs.Soundness.Members.{lowest}

-- a test asked of one number alone
one_of : (f : ℕ → Bool) (r : ℕ) → r < 16 → some 16 (λ b. every (f b ∷ eqb r b ∷ [])) ≡ f r
one_of f r l =
    both _ _ (λ h. let (b, k, met) = some_e 16 _ h in ap f (eqb-true r b (every_at _ met 1)) ∙ every_at _ met 0)
    (λ h. some_i 16 _ r l (every_i _ (h, (eq-eqb r r refl, tt))))

module _ (t : Tables) (q : Request) where
  pub cycle_of : q.role < 16 → or_below (tie_by t.roles) (eqb q.role) q.junior ≡ closes_cycle t q
  unfolding closes_cycle
  cycle_of r = ap (either (eqb q.role q.junior)) (one_of (below (tie_by t.roles) q.junior) q.role r)

  pub tied_of : (role_at t q.role).juniors < 2 ^ 16 → either (not (eqb (role_at t q.role).juniors 0)) (senior_by t.roles q.role) ≡ role_tied t q
  unfolding role_tied senior_by
  tied_of small = both _ _ forth back
    where
      some_junior : (0 < (role_at t q.role).juniors) → role_tied t q ≡ true
      some_junior more =
          let (l, on) = lowest 16 (role_at t q.role).juniors more small in
          some_i 16 _ (count_trailing_zeros 16 (role_at t q.role).juniors) l (either_l _ _ on)

      forth : either (not (eqb (role_at t q.role).juniors 0)) (some 16 (λ k. tie_by t.roles k q.role)) ≡ true → role_tied t q ≡ true
      forth h =
          ⊎_elim (λ more. some_junior (let ne = eqb-false (role_at t q.role).juniors 0 (of_not_true _ more) in omega (arith, ne)))
          (λ s. let (k, l, on) = some_e 16 _ s in some_i 16 _ k l (either_r _ _ on)) (either_e _ _ h)

      back : role_tied t q ≡ true → either (not (eqb (role_at t q.role).juniors 0)) (some 16 (λ k. tie_by t.roles k q.role)) ≡ true
      back h =
          let (k, l, way) = some_e 16 _ h in
          ⊎_elim
          (λ down. either_l _ _ (not_of_false _ (is_false _ (λ z. clash _ (ap (λ (n : ℕ). has n k) (sym (eqb-true _ _ z)) ∙ down) (has_none k)))))
          (λ up. either_r _ _ (some_i 16 _ k l up)) (either_e _ _ way)
