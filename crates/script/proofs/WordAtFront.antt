-- The word at the front of a line, by its key.
--     word_at_key, word_none, word_text, place_known     which word has a key, and its place
--     key_none, key_more, key_next, key_four, begins    the key of the first bytes of a text, one byte after the other
--     bytes_drop                            bytes from some byte on
--     word_known                            a word and a space behind it
-- Assumes nothing.
use Prim.Native.Nat.{ℕ, suc, ◌+◌, ◌-◌, ◌*◌, ◌≤◌, ◌<◌}
use mathlib.Core.Path.{◌≡◌, refl, ap, sym, ◌∙◌}
use mathlib.Core.Bool.{Bool, true, false, not, ◌&&◌, and-eq-true_iff}
use mathlib.Core.List.{List, [], ◌∷◌, ◌++◌}
use native.Mathlib.Decide.{dec_lt}
use native.Mathlib.Nat.{add-zero}
use native.Mathlib.Omega.{arith}
use lib.Dec.{ltb}
use lib.ListN.{length, get_or, take, drop, length-drop, get_or-eq_default}
use lib.Seq.{take-suc, get_or-drop, get_or-take, length-take-le, split_at}
use borrow.Author.Tests.{le-leb, ltb-true, not-true}
use Rattle.bitset.specs.Tests.{all}
use Rattle.bitset.specs.Tests.Laws.{all_e}
use Rattle.script.specs.Text.{bytes, same}
use Rattle.script.specs.Names.{column}
use Rattle.script.specs.Line.{request_words, words}
use Rattle.script.specs.Private.Slices.{leading}
use Rattle.script.specs.Private.Rows.{no_word}
use Rattle.std.specs.Prelude.{Option, Some, None}
use Rattle.std.specs.Bool.{then_some}
use Rattle.script.specs.Private.ShortTexts.{packed, text_key, spot, below, place_in, word_of, Begins}
use Rattle.script.proofs.ByKey.{Bytes, Misses, kept, by_key, spot_none, none_below_it, word_keys, word_keys_lem}
use Rattle.script.proofs.NamePlaces.{column_found}
use Rattle.script.proofs.FirstValue.{clean, lead_clean}

-- ---- which word has a key
pub words_length : length words ≡ no_word
unfolding words request_words
words_length = refl

pub word_at_key : {k n : ℕ} → k ≡ n → below no_word (spot n word_keys) ≡ word_of k
unfolding word_of
word_at_key {k} {n} e = rw e (ap (λ (ns : List ℕ). below no_word (spot n ns)) (sym word_keys_lem.keys))

-- it is none of those that pass a test which it passes
pub word_none : (t : ℕ → Bool) {k : ℕ} → t k ≡ true → Misses (Unit {0}) k (kept t word_keys) → None ≡ word_of k
unfolding word_of
word_none t {k} p m =
    none_below_it no_word _ (spot_none t k word_keys p m).1 ∙ ap (λ (ns : List ℕ). below no_word (spot k ns)) (sym word_keys_lem.keys)

pub word_text : (p : List ℕ) {k : ℕ} {w : Option ℕ} → Bytes p → k ≡ text_key p → w ≡ word_of k → w ≡ place_in p words
unfolding word_of place_in
word_text p b h e = e ∙ ap word_of h ∙ (rw (by_key p words b word_keys_lem.fit, words_length))

-- a word's place
pub place_known : (p : List ℕ) (w : ℕ) → Some w ≡ place_in p words → (w ≡ column p words) × (w < no_word)
unfolding place_in
place_known p w e = go (ltb (column p words) (length words)) refl e
  where
    go : (b : Bool) → ltb (column p words) (length words) ≡ b → Some w ≡ then_some b (column p words) → (w ≡ column p words) × (w < no_word)
    go true t e = let same : w ≡ column p words = cc in (same, omega (arith, ltb-true _ _ t, words_length))
    go false t e = let z : ◌≡◌ {A = ℕ} 0 1 = cc in absurd (omega arith)

-- ---- the key of the first bytes
packed_last : (n : ℕ) (s : List ℕ) (b : ℕ) → packed n (s ++ (b ∷ [])) ≡ 256 * packed n s + b
unfolding packed
packed_last n [] b = refl
packed_last n (a ∷ s) b = packed_last (256 * n + a) s b

short_key : (t : List ℕ) (n : ℕ) → n ≤ 7 → n ≤ length t → text_key (take n t) ≡ packed 1 (take n t)
unfolding text_key
short_key t n h l = rw (le-leb (length (take n t)) 7 (rw (length-take-le n t l) h))

pub key_none : (t : List ℕ) → text_key (take 0 t) ≡ 1
unfolding text_key packed
key_none t = refl

pub key_more : (t : List ℕ) (n : ℕ) → n < 7 → n < length t → text_key (take (suc n) t) ≡ 256 * text_key (take n t) + get_or t n 0
key_more t n h l =
    short_key t (suc n) (omega arith) (omega arith)
    ∙ ap (packed 1) (take-suc t n 0 l)
    ∙ packed_last 1 (take n t) (get_or t n 0)
    ∙ ap (λ (k : ℕ). 256 * k + get_or t n 0) (sym (short_key t n (omega arith) (omega arith)))

-- the same by the bytes of the whole text
pub key_next : (s : List ℕ) (from n k b : ℕ) → n < 7 → n < length (drop from s) → k ≡ text_key (take n (drop from s)) → b ≡ get_or s (from + n) 0
    → 256 * k + b ≡ text_key (take (suc n) (drop from s))
key_next s from n k b h l e f = rw (e, f, ← get_or-drop from s n 0) (sym (key_more (drop from s) n h l))

pub key_four : (s : List ℕ) (from a b c d : ℕ) → from + 3 < length s → a ≡ get_or s from 0 → b ≡ get_or s (from + 1) 0 → c ≡ get_or s (from + 2) 0
    → d ≡ get_or s (from + 3) 0 → 256 * (256 * (256 * (256 + a) + b) + c) + d ≡ text_key (take 4 (drop from s))
key_four s from a b c d l x y z w =
    let n : length (drop from s) ≡ length s - from = length-drop from s in
    key_next s from 3 _ d (omega arith) (omega arith)
    (key_next s from 2 _ c (omega arith) (omega arith)
    (key_next s from 1 _ b (omega arith) (omega arith)
    (key_next s from 0 1 a (omega arith) (omega arith) (sym (key_none (drop from s))) (x ∙ ap (λ (k : ℕ). get_or s k 0) (sym (add-zero from))))
    y)
    z)
    w

pub begins : (s : List ℕ) (from n k a w : ℕ) → n < 7 → k ≡ text_key (take n (drop from s)) → a ≡ get_or s (from + n) 0 → a ≡ 32 → Some w ≡ word_of k
    → Begins (drop from s) w n
begins s from n k a w l h e z x = record { within = l; word = x ∙ ap word_of h; space = get_or-drop from s n 0 ∙ sym e ∙ z }

-- ---- bytes
pub bytes_drop : (n : ℕ) (s : List ℕ) → Bytes s → Bytes (drop n s)
bytes_drop n s b i = rw (get_or-drop n s i 0) (b (n + i))

bytes_take : (n : ℕ) (s : List ℕ) → n ≤ length s → Bytes s → Bytes (take n s)
bytes_take n s l b i = go (dec_lt i n)
  where
    go : Dec (i < n) → get_or (take n s) i 0 < 256
    go (yes h) = rw (get_or-take n s i 0 h) (b i)
    go (no h) = rw (get_or-eq_default (take n s) 0 {n = i} (rw (length-take-le n s l) (omega arith))) (omega arith)

-- ---- a word and a space behind it
plain : all no_word (λ i. clean (get_or words i []) && not (same (get_or words i []) (bytes "-"))) ≡ true
unfolding all words request_words bytes same
plain = refl

pub record Word (t p : List ℕ) (w : ℕ) : Type 0 where
  pub leads : leading t ≡ p
  pub place : Some w ≡ place_in p words
  pub no_dash : same p (bytes "-") ≡ false

pub word_known : (t : List ℕ) (n w : ℕ) → Bytes t → Begins t w n → n < length t → Word t (take n t) w
word_known t n w b g m =
    record { leads = split ∙ lead_clean (take n t) (drop (suc n) t) pure.0; place = known; no_dash = not-true _ pure.1 }
  where
    known : Some w ≡ place_in (take n t) words
    known = word_text (take n t) (bytes_take n t (omega arith) b) refl g.word

    few : column (take n t) words < no_word
    few = let (e, l) = place_known (take n t) w known in omega arith

    here : get_or words (column (take n t) words) [] ≡ take n t
    here = column_found (take n t) words (omega (arith, few, words_length))

    pure : (clean (take n t) ≡ true) × (not (same (take n t) (bytes "-")) ≡ true)
    pure =
        (and-eq-true_iff (clean (take n t)) (not (same (take n t) (bytes "-")))).0
        (rw here at (all_e no_word (λ i. clean (get_or words i []) && not (same (get_or words i []) (bytes "-"))) plain (column (take n t) words) few))

    split : leading t ≡ leading (take n t ++ (32 ∷ drop (suc n) t))
    split = ap leading (split_at t n 0 m ∙ ap (λ (d : ℕ). take n t ++ (d ∷ drop (suc n) t)) g.space)
