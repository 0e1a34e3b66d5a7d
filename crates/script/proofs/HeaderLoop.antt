-- The order of columns, as a loop over the line of names finds it: the names so far, and the set of those seen.
--     every_map                                     a test met by each element of a list
--     stands, name_known_at                         which names have come; a name's place
--     values_split, numbered_here, numbered_all     the values as `split` and `enumerate` hand them out: one of them, and all
--     Seen, seen_start, seen_few, seen_more         the loop
--     seen_none, seen_again, seen_end               its ends: one that is none, one that stands twice, and after the last
-- Assumes nothing.
use Prim.Native.Nat.{ℕ, zero, suc, ◌+◌, ◌≤◌, ◌<◌}
use mathlib.Core.Path.{◌≡◌, refl, ap, sym, ◌∙◌}
use mathlib.Core.Bool.{Bool, true, false, cond, ◌||◌, and-eq-true_iff}
use mathlib.Core.List.{List, [], ◌∷◌, map}
use native.Mathlib.Nat.{zero-add}
use native.Mathlib.Decide.{dec_lt}
use native.Mathlib.Omega.{arith}
use lib.Dec.{eqb, ltb}
use lib.ListN.{length, get_or, set, replicate, length-set, get_or-replicate, get_or-eq_default}
use lib.Seq.{get_or-set_same, get_or-set_other}
use borrow.Author.Tests.{eqb-true, eqb-false, eq-eqb, lt-ltb, ltb-true}
use Rattle.std.specs.Prelude.{Some, None, MatchOption}
use Rattle.std.specs.Bool.{then_some}
use Rattle.bitset.specs.Sets.{has, with, contains}
use Rattle.bitset.specs.Sets.Laws.{has_none, has_with_same, has_with_other, has_below, has_contains, contains_has}
use Rattle.bitset.specs.Tests.{every, all, some}
use Rattle.bitset.specs.Tests.Laws.{all_e, both, clash, is_false, every_i, some_none, some_more, some_i, some_e, or-true, or-false, none_below}
use Rattle.script.specs.Text.{values, onto}
use Rattle.script.specs.Names.{names, all_names, column, among, is_names, Ordered}
use Rattle.script.specs.Private.ShortTexts.{place_in}
use Rattle.script.specs.Private.Rows.{name_count}
use Rattle.std.specs.List.{slice_split, enumerate_from, onto_first}
use Rattle.std.proofs.lemmas.List.FromFn.{length-enumerate_from, get_or-enumerate_from}
use Rattle.script.proofs.NamePlaces.{column_found, among_found, among_i, twice_i, names_length, no_name, twelve, twelve_at, named_alike, Different, different_few, name_among, name_known, name_apart}

-- the name i stands at one of the first n places
unfoldable pub stands : List (List ℕ) → ℕ → ℕ → Bool
stands h n i = some n (λ k. eqb (column (get_or h k []) all_names) i)

stands_more : (h : List (List ℕ)) (n i : ℕ) → stands h (n + 1) i ≡ (stands h n i || eqb (column (get_or h n []) all_names) i)
unfolding stands
stands_more h n i = some_more n (λ k. eqb (column (get_or h k []) all_names) i)

every_map : {A : Type 0} (f : A → Bool) (l : List A) (d : A) → ((i : ℕ) → i < length l → f (get_or l i d) ≡ true) → every (map f l) ≡ true
unfolding every
every_map f [] d h = refl
every_map f (x ∷ l) d h = (and-eq-true_iff (f x) (every (map f l))).1 (h 0 (omega arith), every_map f l d (λ i m. h (suc i) (omega arith)))

-- the set of the twelve
full : all 12 (λ i. has 4095 i) ≡ true
unfolding all has
full = refl

module _ (h : List (List ℕ)) (n seen : ℕ) (long : length h ≡ n) (different : Different h n) (is : (i : ℕ) → i < name_count → has seen i ≡ stands h n i) where
  stands_among : (i : ℕ) → i < 12 → stands h n i ≡ true → among h (get_or names i []) ≡ true
  unfolding stands
  stands_among i l t =
      let (k, m, e) = some_e n (λ k. eqb (column (get_or h k []) all_names) i) t in
      let at_i = twelve_at i l in
      among_i (get_or names i []) h k (rw long m) (named_alike (get_or h k []) (get_or names i []) (eqb-true _ _ e ∙ sym at_i) (omega (arith, at_i)))

  among_stands : is_names h ≡ true → (i : ℕ) → i < 12 → stands h n i ≡ true
  unfolding stands
  among_stands g i l =
      let m : column (get_or names i []) h < length h = among_found (get_or names i []) h (name_among h g i l) in
      some_i n (λ k. eqb (column (get_or h k []) all_names) i) (column (get_or names i []) h) (omega arith)
      (eq-eqb _ _ (ap (λ (p : List ℕ). column p all_names) (column_found (get_or names i []) h m) ∙ twelve_at i l))

  names_there : contains seen 4095 ≡ true → is_names h ≡ true
  unfolding is_names
  names_there t =
      every_i _ (
        every_map (among h) names [] (λ i m. let l : i < 12 = rw twelve at m in stands_among i l (sym (is i (omega arith)) ∙ contains_has seen 4095 t i (all_e 12 (λ k. has 4095 k) full i l))),
        (
          every_map (among all_names) h [] (λ k m. among_i (get_or h k []) all_names (column (get_or h k []) all_names) (there k m) (column_found (get_or h k []) all_names (there k m))),
          (twice_i h (λ a b l m e. different.apart a b l (rw (← long) m) (ap (λ (p : List ℕ). column p all_names) e)), tt),
        ),
      )
    where
      there : (k : ℕ) → k < length h → column (get_or h k []) all_names < length all_names
      there k m = omega (arith, different.known k (rw (← long) m), names_length)

  names_back : is_names h ≡ true → contains seen 4095 ≡ true
  names_back g = has_contains seen 4095 (λ i m. let l : i < 12 = has_below 12 4095 i (omega arith) m in is i (omega arith) ∙ among_stands g i l)

  seen_names : contains seen 4095 ≡ is_names h
  seen_names = both _ _ names_there names_back

-- a name's place
pub name_known_at : (p : List ℕ) (n : ℕ) → Some n ≡ place_in p all_names → (n ≡ column p all_names) × (n < name_count)
unfolding place_in
name_known_at p n e = go (ltb (column p all_names) (length all_names)) refl e
  where
    go : (b : Bool) → ltb (column p all_names) (length all_names) ≡ b → Some n ≡ then_some b (column p all_names) → (n ≡ column p all_names) × (n < name_count)
    go true t e = let same : n ≡ column p all_names = cc in (same, omega (arith, ltb-true _ _ t, names_length))
    go false t e = let z : ◌≡◌ {A = ℕ} 0 1 = cc in absurd (omega arith)

-- ---- the values, as `split` hands them out
pub values_split : (s : List ℕ) → slice_split (λ b. eqb b 32) s ≡ values s
unfolding values onto
values_split [] = refl
values_split (b ∷ s) = rw (values_split s) (go (eqb b 32) (values s))
  where
    go : (t : Bool) (ps : List (List ℕ)) → cond t ([] ∷ ps) (onto_first b ps) ≡ cond t ([] ∷ ps) (onto b ps)
    go true ps = refl
    go false [] = refl
    go false (p ∷ ps) = refl

get_or-same_default : (ps : List (List ℕ)) (k : ℕ) (d : List ℕ) → k < length ps → get_or ps k d ≡ get_or ps k []
get_or-same_default [] k d l = absurd (none_below k l)
get_or-same_default (p ∷ ps) zero d l = refl
get_or-same_default (p ∷ ps) (suc k) d l = get_or-same_default ps k d (omega arith)

-- the place and the value that `enumerate` hands out as the k-th
pub numbered_here : (s : List ℕ) (k j : ℕ) (v : List ℕ)
    → (k < length (enumerate_from 0 (slice_split (λ b. eqb b 32) s))) × ((j, v) ≡ get_or (enumerate_from 0 (slice_split (λ b. eqb b 32) s)) k (j, v))
    → (j ≡ k) × ((j < length (values s)) × (v ≡ get_or (values s) j []))
numbered_here s k j v h = go (slice_split (λ b. eqb b 32) s) (values s) (values_split s) h
  where
    go : (qs ps : List (List ℕ)) → qs ≡ ps → (k < length (enumerate_from 0 qs)) × ((j, v) ≡ get_or (enumerate_from 0 qs) k (j, v))
        → (j ≡ k) × ((j < length ps) × (v ≡ get_or ps j []))
    go qs ps z h =
        let l : k < length qs = omega (arith, h.0, length-enumerate_from 0 qs) in
        let e : (j, v) ≡ (0 + k, get_or qs k v) = h.1 ∙ get_or-enumerate_from 0 qs k (j, v) l in
        let q : j ≡ k = ap (λ (x : ℕ × List ℕ). x.0) e ∙ zero-add k in
        let m : j < length qs = rw q l in
        let w : v ≡ get_or qs j [] = ap (λ (x : ℕ × List ℕ). x.1) e ∙ ap (λ (i : ℕ). get_or qs i v) (sym q) ∙ get_or-same_default qs j v m in
        (q, (rw (← ap length z) m, w ∙ ap (λ (x : List (List ℕ)). get_or x j []) z))

pub numbered_all : (s : List ℕ) (k : ℕ) → k ≡ length (enumerate_from 0 (slice_split (λ b. eqb b 32) s)) → k ≡ length (values s)
numbered_all s k h = h ∙ length-enumerate_from 0 (slice_split (λ b. eqb b 32) s) ∙ ap length (values_split s)

-- ---- the loop

pub record Seen (s at : List ℕ) (seen j : ℕ) : Type 0 where
  pub long : length at ≡ 16
  pub place : (k : ℕ) → k < j → get_or at k 0 ≡ column (get_or (values s) k []) all_names
  pub none : (k : ℕ) → j ≤ k → k < 16 → get_or at k 0 ≡ name_count
  pub is : (i : ℕ) → i < name_count → has seen i ≡ stands (values s) j i
  pub different : Different (values s) j

pub seen_start : (s : List ℕ) → Seen s (replicate 16 name_count) 0 0
unfolding stands
seen_start s =
    record {
      long = refl;
      place = λ k l. absurd (none_below k l);
      none = λ k l h. get_or-replicate 16 k name_count 0 h;
      is = λ i l. has_none i ∙ sym (some_none _);
      different = record { known = λ k l. absurd (none_below k l); apart = λ a b l m. absurd (none_below b m) };
    }

pub seen_few : {s at : List ℕ} {seen j : ℕ} → Seen s at seen j → j ≤ name_count
seen_few {s} {at} {seen} {j} p = different_few (values s) j p.different

module _ {s at v : List ℕ} {seen j : ℕ} (p : Seen s at seen j) (f : (j < length (values s)) × (v ≡ get_or (values s) j [])) where
  -- it is none of the names
  pub seen_none : None ≡ place_in v all_names → is_names (values s) ≡ false
  unfolding place_in
  seen_none c = is_false (is_names (values s)) (λ g. go (ltb _ _) (known g) c)
    where
      here : get_or (values s) j [] ≡ v
      here = sym f.1

      known : is_names (values s) ≡ true → ltb (column v all_names) (length all_names) ≡ true
      known g =
          lt-ltb _ _ (omega (arith, names_length, ap (λ (x : List ℕ). column x all_names) here, name_known (values s) g j f.0))

      go : (b : Bool) → b ≡ true → None ≡ then_some b (column v all_names) → ⊥
      go true t c = let z : ◌≡◌ {A = ℕ} 0 1 = cc in omega arith
      go false t c = clash false t refl

module _ {s at v : List ℕ} {seen j n : ℕ} (p : Seen s at seen j) (f : (j < length (values s)) × (v ≡ get_or (values s) j []))
    (c : Some n ≡ place_in v all_names) where
  found : (n ≡ column v all_names) × (n < name_count)
  found = name_known_at _ n c

  name_here : n ≡ column (get_or (values s) j []) all_names
  name_here = found.0 ∙ ap (λ (x : List ℕ). column x all_names) f.1

  known_here : n < name_count
  known_here = found.1

  -- it stands twice
  pub seen_again : has seen n ≡ true → is_names (values s) ≡ false
  unfolding stands
  seen_again h = is_false (is_names (values s)) twice
    where
      twice : is_names (values s) ≡ true → ⊥
      twice g =
          let (k, m, q) = some_e j (λ k. eqb (column (get_or (values s) k []) all_names) n) (sym (p.is n known_here) ∙ h) in
          name_apart (values s) g k j m f.0 (named_alike _ _ (eqb-true _ _ q ∙ name_here) (rw (← name_here) known_here))

  module _ {m : ℕ} (w : m ≡ with seen n) (new : has seen n ≡ false) where
    place_more : (k : ℕ) → k < j + 1 → get_or (set at j n) k 0 ≡ column (get_or (values s) k []) all_names
    place_more k l = go (dec_lt k j)
      where
        before_it : k < j → k ≡ j → ⊥
        before_it b q = omega arith

        go : Dec (k < j) → get_or (set at j n) k 0 ≡ column (get_or (values s) k []) all_names
        go (yes b) = get_or-set_other at j k n 0 (before_it b) ∙ p.place k b
        go (no b) =
            let q : k ≡ j = omega arith in
            rw q (get_or-set_same at j n 0 (omega (arith, p.long, seen_few p)) ∙ name_here)

    none_more : (k : ℕ) → j + 1 ≤ k → k < 16 → get_or (set at j n) k 0 ≡ name_count
    none_more k l h = get_or-set_other at j k n 0 (behind l) ∙ p.none k (omega arith) h
      where
        behind : j + 1 ≤ k → k ≡ j → ⊥
        behind l q = omega arith

    is_more : (i : ℕ) → i < name_count → has m i ≡ stands (values s) (j + 1) i
    is_more i l = ap (λ (x : ℕ). has x i) w ∙ go (eqb n i) refl ∙ sym (stands_more (values s) j i ∙ ap (λ (x : ℕ). stands (values s) j i || eqb x i) (sym name_here))
      where
        go : (b : Bool) → eqb n i ≡ b → has (with seen n) i ≡ (stands (values s) j i || b)
        go true q = ap (λ (x : ℕ). has (with seen x) i) (eqb-true n i q) ∙ has_with_same seen i ∙ sym (or-true (stands (values s) j i))
        go false q = has_with_other seen n i (λ z. eqb-false n i q (sym z)) ∙ p.is i l ∙ sym (or-false (stands (values s) j i))

    different_more : Different (values s) (j + 1)
    unfolding stands
    different_more = record { known = known; apart = apart }
      where
        known : (k : ℕ) → k < j + 1 → column (get_or (values s) k []) all_names < name_count
        known k l = go (dec_lt k j)
          where
            go : Dec (k < j) → column (get_or (values s) k []) all_names < name_count
            go (yes b) = p.different.known k b
            go (no b) = let q : k ≡ j = omega arith in rw (q, ← name_here) known_here

        apart : (a b : ℕ) → a < b → b < j + 1 → column (get_or (values s) a []) all_names ≡ column (get_or (values s) b []) all_names → ⊥
        apart a b l k same = go (dec_lt b j)
          where
            go : Dec (b < j) → ⊥
            go (yes d) = p.different.apart a b l d same
            go (no d) =
                let q : b ≡ j = omega arith in
                let is_n : column (get_or (values s) a []) all_names ≡ n = same ∙ ap (λ (x : ℕ). column (get_or (values s) x []) all_names) q ∙ sym name_here in
                clash (has seen n) (p.is n known_here ∙ some_i j (λ x. eqb (column (get_or (values s) x []) all_names) n) a (omega arith) (eq-eqb _ _ is_n)) new

    pub seen_more : Seen s (set at j n) m (j + 1)
    seen_more =
        record {
          long = length-set at j n ∙ p.long;
          place = place_more;
          none = none_more;
          is = is_more;
          different = different_more;
        }

module _ {s at : List ℕ} {seen j : ℕ} (p : Seen s at seen j) (many : j ≡ length (values s)) where
  pub seen_end : {g : Bool} → g ≡ contains seen 4095
      → MatchOption (then_some g at) (is_names (values s) ≡ false) (λ at. Ordered (values s) at)
  seen_end {g} k = so g (k ∙ seen_names (values s) j seen (sym many) p.different p.is)
    where
      go : (i : ℕ) → i < 16 → Dec (i < j) → get_or at i 0 ≡ column (get_or (values s) i []) all_names
      go i l (yes b) = p.place i b
      go i l (no b) =
          p.none i (omega arith) l ∙ sym (ap (λ (v : List ℕ). column v all_names) (get_or-eq_default (values s) [] {n = i} (omega (arith, many))) ∙ no_name)

      so : (b : Bool) → b ≡ is_names (values s) → MatchOption (then_some b at) (is_names (values s) ≡ false) (λ at. Ordered (values s) at)
      so true e = record { good = sym e; place = λ i l. go i l (dec_lt i j) }
      so false e = sym e
