-- A good names line is short: its values are different names, so that it is no longer than all names together.
--     names_short     a good names line has at most 255 bytes
-- Assumes nothing.
use Prim.Native.Nat.{ℕ, suc, ◌+◌, ◌≤◌, ◌<◌}
use mathlib.Core.Path.{◌≡◌, refl, ap, sym, ◌∙◌}
use mathlib.Core.Bool.{Bool, true, false, cond, ◌||◌, true≢false}
use mathlib.Core.List.{List, [], ◌∷◌, map}
use lib.Dec.{eqb}
use lib.ListN.{length}
use native.Mathlib.Omega.{arith}
use Rattle.bitset.specs.Tests.Laws.{Each, is_false, of_not_true, every_e, every_at}
use Rattle.script.specs.Text.{bytes, same, onto, values}
use Rattle.script.specs.Names.{names, optional_names, all_names, among, none_twice, is_names}
use Rattle.script.proofs.ByKey.{same_eq, same_self}
use Rattle.script.proofs.ValuesInTurn.{values_some}

-- ---- how long the line of some values is, with one byte 10 or 32 behind each
abbrev span : List (List ℕ) → ℕ
span [] = 0
span (p ∷ ps) = length p + 1 + span ps

onto_span : (b : ℕ) (ps : List (List ℕ)) → 0 < length ps → span (onto b ps) ≡ suc (span ps)
unfolding onto
onto_span b [] h = absurd (none h)
  where
    none : 0 < 0 → ⊥
    none h = omega arith
onto_span b (p ∷ ps) h = omega arith

values_span : (l : List ℕ) → span (values l) ≡ suc (length l)
unfolding values
values_span [] = refl
values_span (b ∷ l) = go (eqb b 32) (values_span l)
  where
    go : (t : Bool) → span (values l) ≡ suc (length l) → span (cond t ([] ∷ values l) (onto b (values l))) ≡ suc (suc (length l))
    go true e = omega arith
    go false e = onto_span b (values l) (values_some l) ∙ ap suc e

-- ---- a list without its first p
abbrev without : List ℕ → List (List ℕ) → List (List ℕ)
without p [] = []
without p (q ∷ qs) = cond (same p q) qs (q ∷ without p qs)

without_span : (p : List ℕ) (qs : List (List ℕ)) → among qs p ≡ true → span qs ≡ length p + 1 + span (without p qs)
unfolding among
without_span p [] h = absurd (true≢false (sym h))
without_span p (q ∷ qs) h = go (same p q) refl h (without_span p qs)
  where
    go : (t : Bool) → same p q ≡ t → (t || among qs p) ≡ true
        → (among qs p ≡ true → span qs ≡ length p + 1 + span (without p qs))
        → length q + 1 + span qs ≡ length p + 1 + span (cond t qs (q ∷ without p qs))
    go true e h more = rw (same_eq p q e)
    go false e h more = omega (arith, more h)

without_other : (p m : List ℕ) (qs : List (List ℕ)) → same m p ≡ false → among qs m ≡ true → among (without p qs) m ≡ true
unfolding among
without_other p m [] d h = h
without_other p m (q ∷ qs) d h = go (same p q) refl (same m q) refl h (without_other p m qs d)
  where
    go : (t : Bool) → same p q ≡ t → (u : Bool) → same m q ≡ u → (u || among qs m) ≡ true
        → (among qs m ≡ true → among (without p qs) m ≡ true) → among (cond t qs (q ∷ without p qs)) m ≡ true
    go true e true f h more = absurd (true≢false (sym f ∙ ap (same m) (sym (same_eq p q e)) ∙ d))
    go true e false f h more = h
    go false e true f h more = rw f
    go false e false f h more = rw f (more h)

-- ---- texts of which none stands twice, each among some others, span no more than the others
abbrev Among : List (List ℕ) → List (List ℕ) → Type 0
Among hs ns = Each (map (among hs) ns)

-- n, which is not p, is still among the others without p
still : (p : List ℕ) (hs ns : List (List ℕ)) → among ns p ≡ false → Among hs ns → Among (without p hs) ns
unfolding among
still p hs [] o a = tt
still p hs (n ∷ ns) o (here, a) = go (same p n) refl o (λ o. still p hs ns o a)
  where
    go : (t : Bool) → same p n ≡ t → (t || among ns p) ≡ false → (among ns p ≡ false → Among (without p hs) ns)
        → (among (without p hs) n ≡ true) × Among (without p hs) ns
    go true e o more = absurd (true≢false o)
    go false e o more = (without_other p n hs (is_false (same n p) (λ m. true≢false (sym (same_self p) ∙ ap (same p) (sym (same_eq n p m)) ∙ e))) here, more o)

bounded : (ns hs : List (List ℕ)) → none_twice ns ≡ true → Among hs ns → span ns ≤ span hs
unfolding none_twice
bounded [] hs d a = omega arith
bounded (n ∷ ns) hs d (here, a) =
    let s : span hs ≡ length n + 1 + span (without n hs) = without_span n hs here in
    omega (arith, bounded ns (without n hs) (every_at _ d 1) (still n hs ns (of_not_true _ (every_at _ d 0)) a))

names_span : span all_names ≤ 256
unfolding all_names names optional_names bytes
names_span = omega arith

pub names_short : (l : List ℕ) → is_names (values l) ≡ true → length l ≤ 255
unfolding is_names
names_short l h =
    let b : span (values l) ≤ span all_names = bounded (values l) all_names (every_at _ h 2) (every_e _ (every_at _ h 1)) in
    omega (arith, values_span l, names_span)
