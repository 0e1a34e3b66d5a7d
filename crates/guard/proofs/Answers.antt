-- The number that a rule answers on sound tables, as `judge` decides it.
--     out_of_range, by_rule         2 where a number is out of range, else the first refusal of the rule at the request's number
--     by_numbers                    .. by what is known of them then
--     none_of, past_kinds           a number that is none of the first k; 2 for one that is none of the nineteen
--     done_in_range, done_allowed   0 is answered where all numbers are in range and no refusal applies
-- Assumes nothing.
use Prim.Native.Nat.{ℕ, zero, suc, ◌≤◌}
use mathlib.Core.Path.{◌≡◌, refl, sym, ◌∙◌}
use mathlib.Core.Bool.{true, false}
use native.Mathlib.Omega.{arith}
use lib.ListN.{get_or}
use borrow.Author.Tests.{eqb-false}
use Rattle.bitset.specs.Tests.Laws.{is_false, of_not_true, of_not_false}
use Rattle.guard.specs.Refusals.{first}
use Rattle.guard.specs.Requests.{request_count, unknown, rules, rule_of}
use Rattle.guard.specs.Step.{in_ranges_in}
use Rattle.guard.specs.Private.Inside.{number}
use Rattle.guard.specs.Private.InForce.{in_ranges}
use Rattle.guard.specs.declared.Tables.{Tables}
use Rattle.guard.specs.declared.Request.{Request}
use Rattle.guard.proofs.Ranges.{rule_at, fits_none}

-- n is none of the first k numbers
abbrev pub NoneOf : ℕ → ℕ → Type 0
NoneOf n zero = Unit {0}
NoneOf n (suc k) = NoneOf n k × (n ≡ k → ⊥)

pub none_of : (n k : ℕ) → NoneOf n k → k ≤ n
none_of n zero h = omega arith
none_of n (suc k) h = omega (arith, none_of n k h.0, h.1)

module _ (t : Tables) (q : Request) where
  out : in_ranges q ≡ false → number (rule_of q) t q ≡ 2
  unfolding number first in_ranges_in
  out h = rw h

  inside : in_ranges q ≡ true → number (rule_of q) t q ≡ first ((rule_of q).refusals t q)
  unfolding number first in_ranges_in
  inside h = rw h

  pub out_of_range : in_ranges q ≡ false → 2 ≡ number (rule_of q) t q
  out_of_range h = sym (out h)

  pub by_rule : (n k : ℕ) → q.call ≡ k → in_ranges q ≡ true → n ≡ first ((get_or rules k unknown).refusals t q) → n ≡ number (rule_of q) t q
  by_rule n k c h same = sym (inside h ∙ rw (rule_at q k c) (sym same))

  -- the same by what is known of the numbers
  pub by_numbers : {R : Type 0} → in_ranges q ≡ true → (k : ℕ) → q.call ≡ k → (in_ranges q ≡ true → q.call ≡ k → R)
      → (n : ℕ) → (R → n ≡ first ((get_or rules k unknown).refusals t q)) → n ≡ number (rule_of q) t q
  by_numbers inside k c known n same = by_rule n k c inside (same (known inside c))

  pub past_kinds : request_count ≤ q.call → 2 ≡ number (rule_of q) t q
  past_kinds h = out_of_range (sym (fits_none q h))

  module _ (z : 0 ≡ number (rule_of q) t q) where
    pub done_in_range : in_ranges q ≡ true
    done_in_range = of_not_false _ (is_false _ (λ o. eqb-false 0 2 refl (z ∙ out (of_not_true _ o))))

    pub done_allowed : first ((rule_of q).refusals t q) ≡ 0
    done_allowed = sym (inside done_in_range) ∙ sym z
