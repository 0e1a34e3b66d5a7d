-- Lists of which only the part from k on is seen, and of that part only g of each record.
--     seen_at, seen_ext          records at a seen place are alike as far as g shows, and back
--     set_hidden, set_same       one record replaced: at a hidden place, or by one that looks the same
--     set_alike                  .. by records that look alike, on two sides that do
--     Hidden, Image, Seen        a change f of which g shows nothing, what an image f' does, or the one or other by number
--     each_hidden, each_alike    every record changed by f
-- Assumes nothing.
use Rattle.std.specs.Prelude.{ℕ, zero, suc, ◌+◌, ◌-◌, ◌≤◌, ◌<◌, ◌≡◌, refl, List, [], ◌∷◌, map, length, get_or, set, drop}
use Rattle.std.proofs.Common.{sym, ap, ◌∙◌, add-sub_of_le, length-drop, get_or-drop, ext_get_or, drop-set-lt, arith}
use Rattle.std.proofs.lemmas.List.{length-map, set-get_or, drop-set-add}
use Rattle.std.proofs.Math.ListN.{get_or-map}
use Rattle.std.proofs.Math.Decide.{dec_lt}

-- f is not seen by g; or is, as f' of what g shows
abbrev pub Hidden : {A : Type 0} → (A → A) → (A → A) → Type 0
Hidden {A} g f = (a : A) → g (f a) ≡ g a

abbrev pub Image : {A : Type 0} → (A → A) → (A → A) → Type 0
Image {A} g f = (f' : A → A) × ((a : A) → g (f a) ≡ f' (g a))

-- a change at number i, of which only the numbers from k on are seen
abbrev pub Seen : {A : Type 0} → ℕ → ℕ → (A → A) → (A → A) → Type 0
Seen k i g f = (i < k → Hidden g f) × (k ≤ i → Image g f)

pub const_image : {A : Type 0} (g : A → A) (c : A) → Image g (λ old. c)
const_image g c = (λ a. g c, λ a. refl)

pub whole_image : {A : Type 0} (f : A → A) → Image (λ a. a) f
whole_image f = (f, λ a. refl)

-- all of a list is seen where g shows the whole of each record
pub map_whole : {A : Type 0} (l : List A) → map (λ a. a) l ≡ l
map_whole [] = refl
map_whole (x ∷ l) = rw (map_whole l)

module _ {A : Type 0} where
  set_above : (k : ℕ) (l : List A) (i : ℕ) (a : A) → k ≤ i → drop k (set l i a) ≡ set (drop k l) (i - k) a
  set_above k l i a h = rw add-sub_of_le at (drop-set-add k l (i - k) a)

  drop_map : (k : ℕ) (l : List A) (f : A → A) → drop k (map f l) ≡ map f (drop k l)
  drop_map zero l f = refl
  drop_map (suc k) [] f = refl
  drop_map (suc k) (x ∷ l) f = drop_map k l f

  module _ (g : A → A) (k : ℕ) where
    -- what is seen of a list
    abbrev pub seen : List A → List A
    seen l = map g (drop k l)

    pub seen_at : (l m : List A) (d : A) → seen l ≡ seen m → (i : ℕ) → k ≤ i → g (get_or l i d) ≡ g (get_or m i d)
    seen_at l m d e i h = from_seen l ∙ ap (λ (r : List A). get_or r (i - k) (g d)) e ∙ sym (from_seen m)
      where
        from_seen : (r : List A) → g (get_or r i d) ≡ get_or (map g (drop k r)) (i - k) (g d)
        from_seen r = rw (get_or-map g (drop k r) (i - k) d, get_or-drop k r (i - k) d, add-sub_of_le h)

    -- and back, for lists of one length
    pub seen_ext : (l m : List A) (d : A) → length l ≡ length m → ((i : ℕ) → k ≤ i → g (get_or l i d) ≡ g (get_or m i d)) → seen l ≡ seen m
    seen_ext l m d long f = ext_get_or (g d) (seen l) (seen m) as_long (λ i h. at l i ∙ f (k + i) (omega arith) ∙ sym (at m i))
      where
        as_long : length (seen l) ≡ length (seen m)
        as_long = simp (length-map, length-drop) (rw long)

        at : (r : List A) (i : ℕ) → get_or (map g (drop k r)) i (g d) ≡ g (get_or r (k + i) d)
        at r i = rw (get_or-map g (drop k r) i d, get_or-drop k r i d)

    map_set : (l : List A) (i : ℕ) (a : A) → map g (set l i a) ≡ set (map g l) i (g a)
    map_set [] i a = refl
    map_set (x ∷ l) zero a = refl
    map_set (x ∷ l) (suc i) a = ap (λ (r : List A). g x ∷ r) (map_set l i a)

    pub set_hidden : (l : List A) (i : ℕ) (a : A) → i < k → seen (set l i a) ≡ seen l
    set_hidden l i a h = rw (drop-set-lt k l i a h)

    pub set_alike : (l m : List A) (i : ℕ) (a b : A) → k ≤ i → seen l ≡ seen m → g a ≡ g b → seen (set l i a) ≡ seen (set m i b)
    set_alike l m i a b h e same = rw (set_above k l i a h, set_above k m i b h, map_set (drop k l), map_set (drop k m), e, same)

    -- a record replaced by one that looks the same
    pub set_same : (l : List A) (i : ℕ) (a d : A) → g a ≡ g (get_or l i d) → seen (set l i a) ≡ seen l
    set_same l i a d e = go (dec_lt i k)
      where
        go : Dec (i < k) → seen (set l i a) ≡ seen l
        go (yes h) = set_hidden l i a h
        go (no h) = set_alike l l i a (get_or l i d) (omega arith) refl e ∙ rw (set-get_or l i d)

    pub each_hidden : (f : A → A) → Hidden g f → (l : List A) → seen (map f l) ≡ seen l
    each_hidden f hidden l = rw (drop_map k l f) (go (drop k l))
      where
        go : (l : List A) → map g (map f l) ≡ map g l
        go [] = refl
        go (x ∷ l) = rw (hidden x, go l)

    pub each_alike : (f : A → A) → Image g f → (l m : List A) → seen l ≡ seen m → seen (map f l) ≡ seen (map f m)
    each_alike f (f', image) l m e = image_seen l ∙ ap (map f') e ∙ sym (image_seen m)
      where
        image_map : (l : List A) → map g (map f l) ≡ map f' (map g l)
        image_map [] = refl
        image_map (x ∷ l) = rw (image x, image_map l)

        image_seen : (l : List A) → seen (map f l) ≡ map f' (seen l)
        image_seen l = rw (drop_map k l f) (image_map (drop k l))

    -- records that look alike still do after f
    pub image_alike : (f : A → A) → Image g f → (a b : A) → g a ≡ g b → g (f a) ≡ g (f b)
    image_alike f (f', image) a b e = image a ∙ ap f' e ∙ sym (image b)
