-- The line of names: which name stands at which place, and where each name stands.
--     column_most, column_found, among_found, among_i         the place of a name among names
--     twice_e, twice_i                                        names of which none stands twice
--     names_at, names_length, no_name                         the names are different, and none is empty
--     twelve, twelve_at                                       the twelve stand in front
--     any_default, map_at                                     an element of a list, and of a list of results
--     named_alike                                             two texts at one place among the names
--     Different, different_few                                different names, of which there are no more than there are names
--     name_among, name_known, name_apart, names_most          a good header: the twelve are among it, each is a name, none stands twice
--     place_of, place_at, at_lt, at_place                      `at` and the place of a name are inverse
--     fills_names                                             as many values as names
--     under_at                                                the value under a name
-- Assumes nothing.
use Prim.Native.Nat.{ℕ, zero, suc, ◌≤◌, ◌<◌}
use mathlib.Core.Path.{◌≡◌, refl, ap, sym, ◌∙◌}
use mathlib.Core.Bool.{Bool, true, false, not, cond, ◌&&◌, ◌||◌, and-eq-true_iff}
use mathlib.Core.List.{List, [], ◌∷◌, map}
use native.Mathlib.Decide.{dec_lt}
use native.Mathlib.Nat.{mod-eq_of_lt}
use native.Mathlib.Omega.{arith}
use lib.Dec.{eqb, ltb}
use lib.ListN.{length, get_or, length-map, get_or-append, get_or-map, get_or-eq_default}
use borrow.Author.Tests.{eqb-true, eqb-false, eq-eqb, ne_eqb, ltb-true, lt-ltb}
use Rattle.bitset.specs.Tests.{all}
use Rattle.bitset.specs.Tests.Laws.{all_e, both, every_i, every_at, clash, is_false, not_of_false, of_not_true, or-true, none_below}
use Rattle.guard.proofs.Laws.Pigeons.{Meet, pigeons}
use Rattle.script.specs.Text.{bytes, same}
use Rattle.script.specs.Names.{names, optional_names, all_names, column, among, none_twice, is_names, under, Ordered}
use Rattle.script.specs.Private.Rows.{name_at, name_count, fills}
use Rattle.script.proofs.ByKey.{same_eq, same_self}

pub column_most : (p : List ℕ) (ps : List (List ℕ)) → column p ps ≤ length ps
unfolding column
column_most p [] = omega arith
column_most p (q ∷ ps) = go (same p q) (column_most p ps)
  where
    go : (b : Bool) → column p ps ≤ length ps → cond b 0 (suc (column p ps)) ≤ suc (length ps)
    go true h = omega arith
    go false h = omega arith

pub column_found : (p : List ℕ) (ps : List (List ℕ)) → column p ps < length ps → get_or ps (column p ps) [] ≡ p
unfolding column
column_found p [] h = absurd (none_below 0 h)
column_found p (q ∷ ps) h = go (same p q) refl (column_found p ps) h
  where
    go : (b : Bool) → same p q ≡ b → (column p ps < length ps → get_or ps (column p ps) [] ≡ p) → cond b 0 (suc (column p ps)) < suc (length ps)
        → get_or (q ∷ ps) (cond b 0 (suc (column p ps))) [] ≡ p
    go true e f k = sym (same_eq p q e)
    go false e f k = f (omega arith)

pub among_found : (p : List ℕ) (ps : List (List ℕ)) → among ps p ≡ true → column p ps < length ps
unfolding column among
among_found p [] h = absurd (clash false h refl)
among_found p (q ∷ ps) h = go (same p q) (among_found p ps) h
  where
    go : (b : Bool) → (among ps p ≡ true → column p ps < length ps) → (b || among ps p) ≡ true → cond b 0 (suc (column p ps)) < suc (length ps)
    go true f k = omega arith
    go false f k = omega (arith, f k)

pub among_i : (p : List ℕ) (ps : List (List ℕ)) (k : ℕ) → k < length ps → get_or ps k [] ≡ p → among ps p ≡ true
unfolding among
among_i p [] k l e = absurd (none_below k l)
among_i p (q ∷ ps) zero l e = rw (e, same_self p)
among_i p (q ∷ ps) (suc k) l e = rw (among_i p ps k (omega arith) e) (or-true (same p q))

-- ---- none stands twice
twice_e : (ps : List (List ℕ)) → none_twice ps ≡ true → (a b : ℕ) → a < b → b < length ps → get_or ps a [] ≡ get_or ps b [] → ⊥
unfolding none_twice
twice_e [] h a b l m e = none_below b m
twice_e (p ∷ ps) h a zero l m e = none_below a l
twice_e (p ∷ ps) h zero (suc b) l m e = clash (among ps p) (among_i p ps b (omega arith) (sym e)) (of_not_true _ (every_at _ h 0))
twice_e (p ∷ ps) h (suc a) (suc b) l m e = twice_e ps (every_at _ h 1) a b (omega arith) (omega arith) e

pub twice_i : (ps : List (List ℕ)) → ((a b : ℕ) → a < b → b < length ps → get_or ps a [] ≡ get_or ps b [] → ⊥) → none_twice ps ≡ true
unfolding none_twice
twice_i [] apart = refl
twice_i (p ∷ ps) apart =
    every_i _ (
      not_of_false _ (is_false (among ps p) (λ m. let l = among_found p ps m in apart 0 (suc (column p ps)) (omega arith) (omega arith) (sym (column_found p ps l)))),
      (twice_i ps (λ a b l m. apart (suc a) (suc b) (omega arith) (omega arith)), tt),
    )

-- ---- the names
names_right : all name_count (λ i. eqb (column (get_or all_names i []) all_names) i) ≡ true
unfolding all all_names names optional_names column same bytes
names_right = refl

names_at : (i : ℕ) → i < name_count → column (get_or all_names i []) all_names ≡ i
names_at i h = eqb-true _ _ (all_e name_count (λ k. eqb (column (get_or all_names k []) all_names) k) names_right i h)

pub names_length : length all_names ≡ name_count
unfolding all_names names optional_names
names_length = refl

pub no_name : column [] all_names ≡ name_count
unfolding all_names names optional_names column same bytes
no_name = refl

-- the twelve stand in front
pub twelve : length names ≡ 12
unfolding names
twelve = refl

pub twelve_at : (i : ℕ) → i < 12 → column (get_or names i []) all_names ≡ i
unfolding all_names
twelve_at i l = ap (λ (p : List ℕ). column p all_names) (sym (get_or-append names optional_names [] i (rw twelve l))) ∙ names_at i (omega arith)

-- an element that is there, whatever stands behind the last
pub any_default : {A : Type 0} (l : List A) (i : ℕ) (d e : A) → i < length l → get_or l i d ≡ get_or l i e
any_default [] i d e h = absurd (none_below i h)
any_default (x ∷ l) zero d e h = refl
any_default (x ∷ l) (suc i) d e h = any_default l i d e (omega arith)

map_at : {A B : Type 0} (f : A → B) (l : List A) (i : ℕ) (d : A) (e : B) → i < length l → get_or (map f l) i e ≡ f (get_or l i d)
map_at f l i d e h = any_default (map f l) i e (f d) (rw (length-map l f) h) ∙ get_or-map f l i d

-- two texts at one place among the names are the same
pub named_alike : (p q : List ℕ) → column p all_names ≡ column q all_names → column q all_names < name_count → p ≡ q
named_alike p q e l =
    sym (column_found p all_names (omega (arith, names_length)))
    ∙ ap (λ (k : ℕ). get_or all_names k []) e
    ∙ column_found q all_names (omega (arith, names_length))

-- ---- the first n of a header: each is a name, and none stands twice
pub record Different (h : List (List ℕ)) (n : ℕ) : Type 0 where
  pub known : (k : ℕ) → k < n → column (get_or h k []) all_names < name_count
  pub apart : (a b : ℕ) → a < b → b < n → column (get_or h a []) all_names ≡ column (get_or h b []) all_names → ⊥

-- of more than there are names two would be the same
pub different_few : (h : List (List ℕ)) (n : ℕ) → Different h n → n ≤ name_count
different_few h n f = go (dec_lt name_count n)
  where
    go : Dec (name_count < n) → n ≤ name_count
    go (no m) = omega arith
    go (yes m) = absurd (meet (pigeons name_count (λ k. column (get_or h k []) all_names) (λ k l. f.known k (omega arith))))
      where
        meet : Meet (λ k. column (get_or h k []) all_names) name_count → ⊥
        meet (a, b, l, t, e) = f.apart a b l (omega arith) e

-- ---- a good header
module _ (h : List (List ℕ)) (good : is_names h ≡ true) where
  pub name_among : (i : ℕ) → i < 12 → among h (get_or names i []) ≡ true
  unfolding is_names
  name_among i l = sym (map_at (among h) names i [] true (rw twelve l)) ∙ every_at (map (among h) names) (every_at _ good 0) i

  pub name_known : (k : ℕ) → k < length h → column (get_or h k []) all_names < name_count
  unfolding is_names
  name_known k l =
      let known : among all_names (get_or h k []) ≡ true = sym (map_at (among all_names) h k [] true l) ∙ every_at (map (among all_names) h) (every_at _ good 1) k in
      omega (arith, among_found (get_or h k []) all_names known, names_length)

  pub name_apart : (a b : ℕ) → a < b → b < length h → get_or h a [] ≡ get_or h b [] → ⊥
  unfolding is_names
  name_apart = twice_e h (every_at _ good 2)

  -- each stands at its own place first
  first_at : (j : ℕ) → j < length h → column (get_or h j []) h ≡ j
  first_at j l = go (dec_lt (column (get_or h j []) h) j) (dec_lt j (column (get_or h j []) h))
    where
      there : column (get_or h j []) h < length h
      there = among_found (get_or h j []) h (among_i (get_or h j []) h j l refl)

      found : get_or h (column (get_or h j []) h) [] ≡ get_or h j []
      found = column_found (get_or h j []) h there

      go : Dec (column (get_or h j []) h < j) → Dec (j < column (get_or h j []) h) → column (get_or h j []) h ≡ j
      go (yes m) d = absurd (name_apart (column (get_or h j []) h) j m l found)
      go (no m) (yes n) = absurd (name_apart j (column (get_or h j []) h) n there (sym found))
      go (no m) (no n) = omega arith

  names_most : length h ≤ name_count
  names_most =
      different_few h (length h)
      (record { known = name_known; apart = λ a b l m e. name_apart a b l m (named_alike _ _ e (name_known b m)) })

-- ---- where each name stands
unfoldable pub place_of : List (List ℕ) → ℕ → ℕ
place_of h i = column (get_or all_names i []) h

module _ {h : List (List ℕ)} {at : List ℕ} (o : Ordered h at) where
  most : length h ≤ name_count
  most = names_most h o.good

  at_name : (j : ℕ) → j < length h → get_or at j 0 ≡ column (get_or h j []) all_names
  at_name j l = o.place j (omega (arith, most))

  pub at_lt : (j : ℕ) → j < length h → get_or at j 0 < name_count
  at_lt j l = rw (at_name j l) (name_known h o.good j l)

  pub at_place : (j : ℕ) → j < length h → place_of h (get_or at j 0) ≡ j
  unfolding place_of
  at_place j l =
      ap (λ (k : ℕ). column (get_or all_names k []) h) (at_name j l)
      ∙ ap (λ (p : List ℕ). column p h) (column_found (get_or h j []) all_names (omega (arith, name_known h o.good j l, names_length)))
      ∙ first_at h o.good j l

  pub place_at : (i : ℕ) → i < name_count → place_of h i < length h → get_or at (place_of h i) 0 ≡ i
  unfolding place_of
  place_at i l m =
      at_name (place_of h i) m ∙ ap (λ (p : List ℕ). column p all_names) (column_found (get_or all_names i []) h m) ∙ names_at i l

  -- behind the last name none stands
  at_none : (j : ℕ) → j < 16 → length h ≤ j → get_or at j 0 ≡ name_count
  at_none j l m = o.place j l ∙ ap (λ (p : List ℕ). column p all_names) (get_or-eq_default h [] {n = j} m) ∙ no_name

  name_in : (j : ℕ) → j < length h → name_at at j < name_count
  name_in j l = let same : name_at at j ≡ get_or at j 0 = mod-eq_of_lt (omega (arith, at_lt j l)) in rw same (at_lt j l)

  none_in : (j : ℕ) → j < 16 → length h ≤ j → name_at at j ≡ name_count
  none_in j l m = rw (at_none j l m)

  pub fills_names : (j : ℕ) → fills at (suc j) ≡ eqb (suc j) (length h)
  unfolding fills
  fills_names j = both _ _ forth back
    where
      within : Dec (j < length h) → suc j < 16 → (name_at at j ≡ name_count → ⊥) → j < length h
      within (yes m) l n = m
      within (no m) l n = absurd (n (none_in j (omega arith) (omega arith)))

      last : Dec (suc j < length h) → name_at at (suc j) ≡ name_count → length h ≤ suc j
      last (yes m) n = absurd (omega (arith, name_in (suc j) m))
      last (no m) n = omega arith

      named : j < length h → name_at at j ≡ name_count → ⊥
      named l e = omega (arith, name_in j l)

      forth : (ltb (suc j) 16 && (not (eqb (name_at at j) name_count) && eqb (name_at at (suc j)) name_count)) ≡ true → eqb (suc j) (length h) ≡ true
      forth t =
          let (a, more) = (and-eq-true_iff (ltb (suc j) 16) (not (eqb (name_at at j) name_count) && eqb (name_at at (suc j)) name_count)).0 t in
          let (b, c) = (and-eq-true_iff (not (eqb (name_at at j) name_count)) (eqb (name_at at (suc j)) name_count)).0 more in
          let here = within (dec_lt j (length h)) (ltb-true (suc j) 16 a) (eqb-false (name_at at j) name_count (of_not_true _ b)) in
          let over = last (dec_lt (suc j) (length h)) (eqb-true (name_at at (suc j)) name_count c) in
          eq-eqb (suc j) (length h) (omega arith)

      back : eqb (suc j) (length h) ≡ true → (ltb (suc j) 16 && (not (eqb (name_at at j) name_count) && eqb (name_at at (suc j)) name_count)) ≡ true
      back t =
          let e = eqb-true (suc j) (length h) t in
          (and-eq-true_iff (ltb (suc j) 16) (not (eqb (name_at at j) name_count) && eqb (name_at at (suc j)) name_count)).1 (
            lt-ltb (suc j) 16 (omega (arith, most)),
            (and-eq-true_iff (not (eqb (name_at at j) name_count)) (eqb (name_at at (suc j)) name_count)).1 (
              not_of_false _ (ne_eqb (name_at at j) name_count (named (omega arith))),
              eq-eqb (name_at at (suc j)) name_count (none_in (suc j) (omega (arith, most)) (omega arith)),
            ),
          )

  pub under_at : (vs : List (List ℕ)) (i : ℕ) → i < name_count → get_or (under h vs) i [] ≡ get_or vs (place_of h i) (bytes "-")
  unfolding under place_of
  under_at vs i l = map_at (λ (n : List ℕ). get_or vs (column n h) (bytes "-")) all_names i [] [] (rw names_length l)
