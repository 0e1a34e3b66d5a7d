-- `guard::sound::tree::has_own_key` counts the entities of a level that have one key. Assumes nothing.
use Prim.Native.Nat.{ℕ, ◌+◌, ◌-◌, ◌*◌, ◌/◌, ◌%◌, ◌<◌}
use native.Mathlib.Omega.{arith}
use mathlib.Core.Bool.{Bool, true, false, cond}
use mathlib.Core.List.{List}
use mathlib.Core.Path.{◌≡◌, refl, sym, ap, ◌∙◌}
use mir.Val.{bool_byte}
use lib.Dec.{eqb}
use lib.ListN.{length, get_or, take, drop, length-drop}
use Rattle.std.proofs.lemmas.List.{length-take-le, get_or-take, get_or-drop}
use borrow.Author.Tests.{eqb-true, eq-eqb, ne_eqb}
use Rattle.bitset.specs.Tests.{either, implies, all}
use Rattle.bitset.specs.Tests.Laws.{both, either_l, all_cong}
use Rattle.guard.proofs.Soundness.Count.{count, count_none, count_more, count_le, at_most_one, once}
use Rattle.guard.proofs.sound.tree.has_own_key.Invariants.{same}
use Rattle.guard.proofs.sound.tree.has_own_key.Goals as goal

unnamed : (a b r : Bool) → a ≡ false → r ≡ b → r ≡ either a b
unfolding either
unnamed a b r h e = rw h e

-- e is at e % 16 of its level, so the test of the count is the contract's
alone : (keys : List ℕ) (e : ℕ) → eqb (count 16 (same keys e)) 1 ≡ all 16 (λ m. implies (same keys e m) (eqb (e / 16 * 16 + m) e))
alone keys e =
    once 16 (same keys e) (e % 16) (omega arith) (let here : e / 16 * 16 + e % 16 ≡ e = omega arith in rw here (eq-eqb (get_or keys e 0) _ refl))
    ∙ all_cong 16 _ _ (λ m l. ap (implies (same keys e m)) (both (eqb m (e % 16)) (eqb (e / 16 * 16 + m) e)
    (λ h. eq-eqb (e / 16 * 16 + m) e (omega (arith, eqb-true m (e % 16) h))) (λ h. eq-eqb m (e % 16) (omega (arith, eqb-true (e / 16 * 16 + m) e h)))))

pub returns-then-k-eq0 : goal.returns-then-k-eq0
returns-then-k-eq0 c = sym (either_l _ _ (eq-eqb _ _ c.if-k-eq0.true))

-- the level of e in the keys
long : (keys : List ℕ) (e : ℕ) → length keys ≡ 64 → e < 64 → length (take (e / 16 * 16 + 16 - e / 16 * 16) (drop (e / 16 * 16) keys)) ≡ 16
long keys e h k =
    let many : e / 16 * 16 + 16 - e / 16 * 16 ≡ 16 = omega arith in
    rw many (length-take-le 16 (drop (e / 16 * 16) keys) (rw (length-drop (e / 16 * 16) keys) (omega (arith, h))))

at : (keys : List ℕ) (e m : ℕ) → m < 16 → get_or (take (e / 16 * 16 + 16 - e / 16 * 16) (drop (e / 16 * 16) keys)) m 0 ≡ get_or keys (e / 16 * 16 + m) 0
at keys e m h = get_or-take _ (drop (e / 16 * 16) keys) m 0 (omega arith) ∙ get_or-drop (e / 16 * 16) keys m 0

pub loop-other-init : goal.loop-other-init
loop-other-init c = sym (count_none _)

bit : (b : Bool) (n : ℕ) → n ≡ bool_byte b → n ≡ cond b 1 0
bit true n e = e
bit false n e = e

-- what one turn adds
one : (c : goal.After-from-hits) → (c.loop-other.other-index < 16) × (c.from-hits.result ≡ cond (same c.args.keys.now c.args.e c.loop-other.other-index) 1 0)
one c =
    let keys = c.args.keys.now in
    let e = c.args.e in
    let within : c.loop-other.other-index < 16 = omega (arith, c.loop-other-test.true, long keys e c.told-keys c.requires) in
    (within, bit _ _ c.from-hits.ensures ∙ ap (λ (v : ℕ). cond (eqb v (get_or keys e 0)) 1 0) (at keys e c.loop-other.other-index within))

pub overflow_add-hits : goal.overflow_add-hits
overflow_add-hits c =
    let l = c.loop-other in
    let has = same c.args.keys.now c.args.e in
    let (within, is) = one c in
    omega (arith, at_most_one (has l.other-index) _ is, l.invariant, count_le l.other-index has)

pub loop-other-preserved : goal.loop-other-preserved
loop-other-preserved c = rw (count_more, c.loop-other.invariant, (one c).1)

pub returns : goal.returns
returns c =
    let a = c.args in
    let n : c.loop-other.other-index ≡ 16 = omega (arith, long a.keys.now a.e c.told-keys c.requires, c.loop-other.auto.other-index-end, c.loop-other-test.false) in
    unnamed _ _ _ (ne_eqb _ _ c.if-k-eq0.false) (ap (λ (h : ℕ). eqb h 1) (rw n at c.loop-other.invariant) ∙ alone a.keys.now a.e)
