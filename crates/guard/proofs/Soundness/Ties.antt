-- The ties, by the records of the roles and the set of those that are live.
--     ties_e, ties_i      the tests of all roles are what soundness asks of the ties
-- Assumes nothing.
use Prim.Native.Nat.{ℕ, ◌<◌}
use mathlib.Core.Path.{◌≡◌, sym, ap, ◌∙◌}
use mathlib.Core.Bool.{true}
use Rattle.bitset.specs.Tests.{all}
use Rattle.bitset.specs.Tests.Laws.{clash, is_false, not_of_false, of_not_true, of_not_false, every_i, every_at, implies_i, implies_e, all_i, all_e}
use Rattle.bitset.specs.Sets.{has}
use Rattle.bitset.specs.Sets.Laws.{has_none}
use Rattle.guard.specs.Tables.{role_at}
use Rattle.guard.specs.Private.Scan.{tie_test}
use Rattle.guard.specs.declared.Tables.{Tables}
use Rattle.guard.proofs.Laws.Below.{below_e, below_i}
use Rattle.guard.proofs.Laws.Sound.Facts.{junior_in, RoleOk, TiesOk}

module _ (t : Tables) (role : (r : ℕ) → r < 16 → RoleOk t.entities r (role_at t r))
    (live : ℕ) (L : (k : ℕ) → k < 16 → has live k ≡ (role_at t k).live) where
  -- a role with a junior is live
  senior_live : (r j : ℕ) → r < 16 → junior_in t.roles r j ≡ true → (role_at t r).live ≡ true
  senior_live r j l tie =
      of_not_false _ (is_false _ (λ dead. clash _ (ap (λ (s : ℕ). has s j) (sym ((role r l).juniors.none (of_not_true _ dead))) ∙ tie) (has_none j)))

  pub ties_e : all 16 (tie_test t.roles live) ≡ true → TiesOk t.roles
  unfolding tie_test
  ties_e h =
      record {
        joined = λ r j l k tie.
            let met = every_at _ (implies_e _ _ (all_e 16 _ (every_at _ (all_e 16 _ h r l) 0) j k) tie) in
            every_i _ (senior_live r j l tie, (sym (L j k) ∙ met 0, (met 1, tt)));
        no_cycle = λ r l b.
            clash _ (below_i _ r r l b) (of_not_true _ (every_at _ (all_e 16 _ h r l) 1));
      }

  pub ties_i : TiesOk t.roles → all 16 (tie_test t.roles live) ≡ true
  unfolding tie_test
  ties_i ok =
      all_i 16 _ (λ r l.
      every_i _ (
        all_i 16 _ (λ j k. implies_i _ _ (λ tie.
            let met = every_at _ (ok.joined r j l k tie) in
            every_i _ (L j k ∙ met 1, (met 2, tt)))),
        (not_of_false _ (is_false _ (λ b. ok.no_cycle r l (below_e _ r r b))), tt),
      ))
