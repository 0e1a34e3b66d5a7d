-- Laws of keys: a text of bytes has the key of another of at most seven bytes only where the two are the same. So which
-- name or word a text is can be told by its key.
-- Packed: the loop that makes a key, with packed_small, packed_more, packed_end, key_long.
-- Keyed: numbers that are the keys of texts, with at_key and at_none: the place of a text among them is that of its key.
-- same_eq, same_self: the same bytes. name_keys_lem, word_keys_lem: the keys of the names and of the words.
-- Assumes nothing.
use Prim.Native.Nat.{ℕ, zero, suc, ◌+◌, ◌*◌, ◌^◌, ◌≤◌, ◌<◌}
use mathlib.Core.Path.{◌≡◌, refl, ap, sym, ◌∙◌}
use mathlib.Core.Bool.{Bool, true, false, true≢false, cond, ◌&&◌}
use mathlib.Core.List.{List, [], ◌∷◌, map}
use native.Mathlib.Numerals.{add-one}
use native.Mathlib.Nat.{pow-suc, pow-le-pow_right}
use native.Mathlib.Omega.{arith}
use mir.Syntax.{w8}
use mir.Val.{Fits}
use lib.Dec.{leb, ltb, eqb}
use lib.ListN.{length, get_or, drop, drop_of_length-le, length-map}
use lib.Seq.{drop-cons}
use borrow.Author.Tests.{le-leb, lt-leb, eq-eqb, ne_eqb, eqb-true, leb-true, leb-false, ltb-true, le-ltb}
use Rattle.bitset.specs.Tests.Laws.{both}
use Rattle.script.specs.Text.{bytes, same}
use Rattle.script.specs.Names.{names, optional_names, all_names, column}
use Rattle.script.specs.Line.{request_words, words}
use Rattle.std.specs.Prelude.{None}
use Rattle.script.specs.Private.ShortTexts.{packed, text_key, spot, below, place_in}

-- ---- the loop that makes a key: k is the first i bytes
pub record Packed (s : List ℕ) (k i : ℕ) : Type 0 where
  pub within : i ≤ length s
  pub key : packed 1 s ≡ packed k (drop i s)
  pub small : k < 256 ^ (i + 1)

pub key_long : (s : List ℕ) → 7 < length s → 0 ≡ text_key s
unfolding text_key
key_long s h = rw (lt-leb (length s) 7 h)

module _ {s : List ℕ} {k i : ℕ} (r : Packed s k i) where
  pub packed_small : i < length s → length s ≤ 7 → k < 72057594037927936
  packed_small l f =
      let b : 256 ^ (i + 1) ≤ 256 ^ 7 = pow-le-pow_right {n = 256} (omega arith) {i = i + 1} {j = 7} (omega arith) in
      omega (arith, r.small)

  pub packed_more : i < length s → get_or s i 0 < 256 → Packed s (256 * k + get_or s i 0) (i + 1)
  unfolding packed
  packed_more l b =
      record {
        within = omega arith;
        key = r.key ∙ (rw (drop-cons s i 0 l, add-one));
        small = rw (add-one (i + 1), pow-suc) (omega (arith, r.small));
      }

  pub packed_end : length s ≤ 7 → length s ≤ i → k ≡ text_key s
  unfolding text_key packed
  packed_end f l = rw (le-leb (length s) 7 f) (sym (r.key ∙ (rw (drop_of_length-le s l))))

-- ---- two texts of one key
abbrev pub Bytes : List ℕ → Type 0
Bytes s = (i : ℕ) → get_or s i 0 < 256

aligned : (n m : ℕ) (s t : List ℕ) → Bytes s → Bytes t → length s ≡ length t → packed n s ≡ packed m t → (n ≡ m) × (s ≡ t)
unfolding packed
aligned n m [] [] p q l h = (h, refl)
aligned n m [] (b ∷ t) p q l h = absurd (omega arith)
aligned n m (a ∷ s) [] p q l h = absurd (omega arith)
aligned n m (a ∷ s) (b ∷ t) p q l h =
    let e = aligned (256 * n + a) (256 * m + b) s t (λ i. p (suc i)) (λ i. q (suc i)) (omega arith) h in
    let x : n ≡ m = omega (arith, p 0, q 0, e.0) in
    let y : a ≡ b = omega (arith, p 0, q 0, e.0) in
    (x, cc e.1)

-- a longer text starts with more than 1
longer : (n : ℕ) (s t : List ℕ) → 1 ≤ n → Bytes s → Bytes t → length t ≤ length s → packed n s ≡ packed 1 t → (n ≡ 1) × (s ≡ t)
unfolding packed
longer n [] t k p q l h = aligned n 1 [] t p q (omega arith) h
longer n (a ∷ s) t k p q l h = go (leb (length t) (length s)) refl (longer (256 * n + a) s t (omega arith) (λ i. p (suc i)) q)
  where
    go : (b : Bool) → leb (length t) (length s) ≡ b
        → (length t ≤ length s → packed (256 * n + a) s ≡ packed 1 t → (256 * n + a ≡ 1) × (s ≡ t))
        → (n ≡ 1) × (a ∷ s ≡ t)
    go true e ih = absurd (omega (arith, (ih (leb-true (length t) (length s) e) h).0))
    go false e ih = aligned n 1 (a ∷ s) t p q (omega (arith, leb-false (length t) (length s) e)) h

one_text : (s t : List ℕ) → Bytes s → Bytes t → packed 1 s ≡ packed 1 t → s ≡ t
one_text s t p q h = go (leb (length t) (length s)) refl
  where
    go : (b : Bool) → leb (length t) (length s) ≡ b → s ≡ t
    go true e = (longer 1 s t (omega arith) p q (leb-true _ _ e) h).1
    go false e = sym (longer 1 t s (omega arith) q p (omega (arith, leb-false (length t) (length s) e)) (sym h)).1

packed_some : (n : ℕ) (s : List ℕ) → 1 ≤ n → 1 ≤ packed n s
unfolding packed
packed_some n [] h = h
packed_some n (b ∷ s) h = packed_some (256 * n + b) s (omega arith)

key_one : (s q : List ℕ) → Bytes s → Bytes q → length q ≤ 7 → text_key s ≡ text_key q → s ≡ q
unfolding text_key
key_one s q p r l h = go (leb (length s) 7) (h ∙ (rw (le-leb (length q) 7 l)))
  where
    go : (b : Bool) → cond b (packed 1 s) 0 ≡ packed 1 q → s ≡ q
    go true e = one_text s q p r e
    go false e = absurd (omega (arith, packed_some 1 q (omega arith)))

pub same_eq : (s q : List ℕ) → same s q ≡ true → s ≡ q
unfolding same
same_eq [] [] h = refl
same_eq [] (b ∷ q) h = absurd (true≢false (sym h))
same_eq (a ∷ s) [] h = absurd (true≢false (sym h))
same_eq (a ∷ s) (b ∷ q) h = go (eqb a b) refl (same_eq s q) h
  where
    go : (t : Bool) → eqb a b ≡ t → (same s q ≡ true → s ≡ q) → (t && same s q) ≡ true → a ∷ s ≡ b ∷ q
    go true e ih k = let x : a ≡ b = eqb-true a b e in cc (ih k)
    go false e ih k = absurd (true≢false (sym k))

pub same_self : (s : List ℕ) → same s s ≡ true
unfolding same
same_self [] = refl
same_self (a ∷ s) = rw (eq-eqb a a refl) (same_self s)

same_key : (s q : List ℕ) → Bytes s → Bytes q → length q ≤ 7 → same s q ≡ eqb (text_key s) (text_key q)
same_key s q p r l =
    both (same s q) (eqb (text_key s) (text_key q))
    (λ h. eq-eqb (text_key s) (text_key q) (ap text_key (same_eq s q h)))
    (λ h. rw (key_one s q p r l (eqb-true (text_key s) (text_key q) h)) (same_self q))

-- ---- the place of a text among others, by its key
-- texts of at most seven bytes
abbrev all_bytes : List ℕ → Bool
all_bytes [] = true
all_bytes (b ∷ s) = ltb b 256 && all_bytes s

abbrev pub short : List (List ℕ) → Bool
short [] = true
short (q ∷ qs) = leb (length q) 7 && (all_bytes q && short qs)

and_l : (a b : Bool) → (a && b) ≡ true → a ≡ true
and_l true b h = refl
and_l false b h = h

and_r : (a b : Bool) → (a && b) ≡ true → b ≡ true
and_r true b h = h
and_r false b h = absurd (true≢false (sym h))

bytes_all : (q : List ℕ) → all_bytes q ≡ true → Bytes q
bytes_all [] h i = omega arith
bytes_all (b ∷ q) h zero = ltb-true b 256 (and_l (ltb b 256) (all_bytes q) h)
bytes_all (b ∷ q) h (suc i) = bytes_all q (and_r (ltb b 256) (all_bytes q) h) i

pub by_key : (s : List ℕ) (qs : List (List ℕ)) → Bytes s → short qs ≡ true → spot (text_key s) (map text_key qs) ≡ column s qs
unfolding column
by_key s [] p h = refl
by_key s (q ∷ qs) p h =
    let r : (all_bytes q && short qs) ≡ true = and_r (leb (length q) 7) (all_bytes q && short qs) h in
    let b : Bytes q = bytes_all q (and_l (all_bytes q) (short qs) r) in
    let l : length q ≤ 7 = leb-true _ _ (and_l (leb (length q) 7) (all_bytes q && short qs) h) in
    let e : same s q ≡ eqb (text_key s) (text_key q) = same_key s q p b l in
    let f : spot (text_key s) (map text_key qs) ≡ column s qs = by_key s qs p (and_r (all_bytes q) (short qs) r) in
    rw (e, f)

-- k is none of the numbers
abbrev pub Misses : Type 0 → ℕ → List ℕ → Type 0
Misses A k [] = A
Misses A k (n ∷ ns) = Misses (A × (k ≡ n → ⊥)) k ns

-- the numbers that pass a test: what passes it too is none of the others
abbrev pub kept : (ℕ → Bool) → List ℕ → List ℕ
kept t [] = []
kept t (n ∷ ns) = cond (t n) (n ∷ kept t ns) (kept t ns)

pub spot_none : {A : Type 0} (t : ℕ → Bool) (k : ℕ) (ns : List ℕ) → t k ≡ true → Misses A k (kept t ns) → A × (spot k ns ≡ length ns)
spot_none t k [] p a = (a, refl)
spot_none {A} t k (n ∷ ns) p m = go (t n) refl (spot_none t k ns p) (spot_none t k ns p) m
  where
    go : (b : Bool) → t n ≡ b → (Misses (A × (k ≡ n → ⊥)) k (kept t ns) → (A × (k ≡ n → ⊥)) × (spot k ns ≡ length ns))
        → (Misses A k (kept t ns) → A × (spot k ns ≡ length ns))
        → Misses A k (cond b (n ∷ kept t ns) (kept t ns)) → A × (cond (eqb k n) 0 (suc (spot k ns)) ≡ suc (length ns))
    go true e one other m = let h = one m in (h.0.0, rw (ne_eqb k n h.0.1, h.1))
    go false e one other m = let h = other m in (h.0, rw (ne_eqb k n (λ i. true≢false (sym p ∙ ap t i ∙ e)), h.1))

-- what stands behind the last place is none
pub none_below_it : (n i : ℕ) → i ≡ n → None ≡ below n i
none_below_it n i e = rw (e, le-ltb n n (omega arith))

-- ns are the keys of qs
pub record Keyed (qs : List (List ℕ)) (ns : List ℕ) : Type 0 where
  pub keys : map text_key qs ≡ ns
  pub fit : short qs ≡ true

-- s is a slice's bytes and k its key
module _ {qs : List (List ℕ)} {ns : List ℕ} (y : Keyed qs ns) (s : List ℕ) {k : ℕ} (p : (i : ℕ) → Fits w8 (get_or s i 0)) (h : k ≡ text_key s) where
  by_number : spot k ns ≡ column s qs
  by_number = ap (λ (n : ℕ). spot n ns) h ∙ ap (spot (text_key s)) (sym y.keys) ∙ by_key s qs (λ i. (p i).fits) y.fit

  placed : below (length ns) (spot k ns) ≡ place_in s qs
  unfolding place_in
  placed = rw (by_number, ← y.keys, length-map qs text_key)

  pub at_key : {n : ℕ} → k ≡ n → below (length ns) (spot n ns) ≡ place_in s qs
  at_key e = ap (λ (n : ℕ). below (length ns) (spot n ns)) (sym e) ∙ placed

  pub at_none : Misses (Unit {0}) k (kept (λ n. true) ns) → None ≡ place_in s qs
  at_none m = none_below_it (length ns) _ (spot_none (λ n. true) k ns refl m).1 ∙ placed

-- ---- the keys of the names and of the words
abbrev name_keys : List ℕ
name_keys =
    0x163616c6c
    ∷ 0x173656174
    ∷ 0x175736572
    ∷ 0x1726f6c65
    ∷ 0x1656e74697479
    ∷ 0x1706172656e74
    ∷ 0x16b696e64
    ∷ 0x16e616d65
    ∷ 0x16c6576656c
    ∷ 0x163617473
    ∷ 0x1726967687473
    ∷ 0x16365696c696e67
    ∷ 0x1736861726564
    ∷ 0x16a756e696f72
    ∷ []

pub name_keys_lem : Keyed all_names name_keys
unfolding all_names names optional_names bytes text_key packed
name_keys_lem = record { keys = refl; fit = refl }

abbrev pub word_keys : List ℕ
word_keys =
    0x175736572
    ∷ 0x16c6f67696e
    ∷ 0x16c6f676f7574
    ∷ 0x174616b65
    ∷ 0x164726f70
    ∷ 0x16f70656e72
    ∷ 0x16f70656e77
    ∷ 0x1636c6f7365
    ∷ 0x1637265617465
    ∷ 0x164656c657465
    ∷ 0x172656e616d65
    ∷ 0x16772616e74
    ∷ 0x17265766f6b65
    ∷ 0x16c697374
    ∷ 0x1756e6c697374
    ∷ 0x16d616b65
    ∷ 0x1756e6d616b65
    ∷ 0x17368617265
    ∷ 0x16a6f696e
    ∷ 0x1756e6a6f696e
    ∷ []

pub word_keys_lem : Keyed words word_keys
unfolding words request_words bytes text_key packed
word_keys_lem = record { keys = refl; fit = refl }
