-- A loop that counts down and collects what is dead, each turn pushing up by one what it has.
--     Pushed, pushed_none, pushed_more      what the loop has collected
--     pushed_all                            the complement of what it has at the end
--     Left, left_all, left_next, left_end   the same along a list of keys
-- Assumes nothing.
use Prim.Native.Nat.{ℕ, zero, suc, ◌+◌, ◌*◌, ◌-◌, ◌/◌, ◌%◌, ◌^◌, ◌≤◌, ◌<◌}
use mathlib.Core.Bool.{Bool, true, false, not, cond, not-not}
use mathlib.Core.List.{List, [], ◌∷◌, ◌++◌}
use mathlib.Core.Path.{◌≡◌, refl, sym, ap, ◌∙◌}
use native.Mathlib.Nat.{div-one, pow-suc, lt_of_lt_of_le}
use native.Mathlib.Omega.{arith}
use lib.Bits.{bit_or, or_shifted}
use lib.Dec.{ltb}
use lib.ListN.{length, get_or, length-append, get_or-append}
use lib.Seq.{get_or-append_seam}
use lib.Pow.{pow_mono, shl_exact}
use borrow.Author.Tests.{eq-eqb, ne_eqb, ltb-true, ltb-false}
use Rattle.bitset.specs.Sets.{has}
use Rattle.bitset.specs.Sets.Laws.{has_minus}
use Rattle.bitset.specs.Tests.{all}
use Rattle.bitset.specs.Tests.Laws.{all_e}
use Rattle.bitset.proofs.Words.{complement}
use Rattle.guard.specs.Private.Tested.{live_by_key}
use Rattle.guard.proofs.Soundness.Members.{has_half}

-- the members of s are the numbers from i on, counted from i, that f does not tell
pub record Pushed (f : ℕ → Bool) (i s : ℕ) : Type 0 where
  pub small : s < 2 ^ (64 - i)
  pub at : (k : ℕ) → k < 64 - i → has s k ≡ not (f (i + k))

pub pushed_none : (f : ℕ → Bool) → Pushed f 64 0
pushed_none f = record { small = omega arith; at = λ k l. absurd (none k l) }
  where
    none : (k : ℕ) → k < 0 → ⊥
    none k h = omega arith

-- ---- one number more, below the others
bit : (x : Bool) (b : ℕ) → b ≡ cond x 0 1 → b ≤ 1
bit true b e = omega arith
bit false b e = omega arith

low : (x : Bool) (s b : ℕ) → b ≡ cond x 0 1 → has (s * 2 + b) 0 ≡ not x
unfolding has
low true s b e = rw div-one (ne_eqb ((s * 2 + b) % 2) 1 (λ q. omega arith))
low false s b e = rw div-one (eq-eqb ((s * 2 + b) % 2) 1 (omega arith))

pushed : (f : ℕ → Bool) (i s b : ℕ) → i < 64 → Pushed f (i + 1) s → b ≡ cond (f i) 0 1 → Pushed f i (s * 2 + b)
pushed f i s b l h e =
    let more : 64 - i ≡ suc (64 - (i + 1)) = omega arith in
    record { small = rw (more, pow-suc) (omega (arith, h.small, bit (f i) b e)); at = at }
  where
    at : (k : ℕ) → k < 64 - i → has (s * 2 + b) k ≡ not (f (i + k))
    at zero m = let here : i + 0 ≡ i = omega arith in rw here (low (f i) s b e)
    at (suc k) m =
        let half : (s * 2 + b) / 2 ≡ s = omega (arith, bit (f i) b e) in
        let here : i + 1 + k ≡ i + suc k = omega arith in
        sym (has_half (s * 2 + b) k) ∙ rw half (h.at k (omega arith)) ∙ ap (λ (n : ℕ). not (f n)) here

top : (x : Bool) (v : ℕ) → v ≤ 16777216 → x ≡ ltb v 16777216 → v / 2 ^ 24 ≡ cond x 0 1
top true v l e = omega (arith, ltb-true v 16777216 (sym e))
top false v l e = omega (arith, ltb-false v 16777216 (sym e))

-- as the code computes it of a number of at most 25 bits
pub pushed_more : (f : ℕ → Bool) (i s v : ℕ) → i < 64 → Pushed f (i + 1) s → v ≤ 16777216 → f i ≡ ltb v 16777216
    → Pushed f i (bit_or ((s * 2 ^ 1) % 2 ^ 64) (v / 2 ^ 24))
pushed_more f i s v l h m e =
    let b = top (f i) v m e in
    let within : 64 - (i + 1) ≤ 63 = omega arith in
    let small : s < 2 ^ 63 = lt_of_lt_of_le h.small (pow_mono within) in
    rw (shl_exact 63 1 64 small (omega arith), or_shifted s 1 (v / 2 ^ 24) (omega (arith, bit (f i) _ b))) (pushed f i s (v / 2 ^ 24) l h b)

-- ---- the complement
ones : (k : ℕ) → k < 64 → has 18446744073709551615 k ≡ true
unfolding has all
ones = all_e 64 _ refl

pub pushed_all : (f : ℕ → Bool) (s : ℕ) → Pushed f 0 s → (k : ℕ) → k < 64 → has (18446744073709551615 - s) k ≡ f k
pushed_all f s h k l =
    let here : 0 + k ≡ k = omega arith in
    rw (complement 64 s h.small, has_minus, ones k l, h.at k l, here) (not-not (f k))

-- ---- along the keys, last first: those that are left stand in front
pub record Left (keys left : List ℕ) (dead : ℕ) : Type 0 where
  pub few : length left ≤ 64
  pub front : (k : ℕ) → k < length left → get_or left k 0 ≡ get_or keys k 0
  pub pushed : Pushed (live_by_key keys) (length left) dead

pub left_all : (keys left : List ℕ) → length keys ≡ 64 → left ≡ keys → Left keys left 0
left_all keys left long e =
    rw e (record { few = omega (arith, long); front = λ k l. refl; pushed = rw long (pushed_none (live_by_key keys)) })

pub left_next : (keys left rest : List ℕ) (v dead : ℕ) → ((e : ℕ) → e < 64 → get_or keys e 0 ≤ 16777216) → Left keys left dead → left ≡ rest ++ (v ∷ [])
    → Left keys rest (bit_or ((dead * 2 ^ 1) % 2 ^ 64) (v / 2 ^ 24))
left_next keys left rest v dead small h e =
    let long : length left ≡ length rest + 1 = rw e (length-append rest (v ∷ [])) in
    let few : length rest < 64 = omega (arith, h.few) in
    let here : v ≡ get_or keys (length rest) 0 = sym (get_or-append_seam rest v [] 0) ∙ rw e at (h.front (length rest) (omega arith)) in
    record {
      few = omega arith;
      front = λ k l. sym (get_or-append rest (v ∷ []) 0 k l) ∙ rw e at (h.front k (omega arith));
      pushed = rw here (pushed_more (live_by_key keys) (length rest) dead _ few (rw long at h.pushed) (small _ few) refl);
    }

pub left_end : (keys left : List ℕ) (dead : ℕ) → Left keys left dead → length left ≡ 0 → (k : ℕ) → k < 64 → has (18446744073709551615 - dead) k ≡ live_by_key keys k
left_end keys left dead h none = pushed_all (live_by_key keys) dead (rw none at h.pushed)
