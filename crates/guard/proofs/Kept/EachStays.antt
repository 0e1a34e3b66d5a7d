-- What is said of each element of a list or each member of a set stays so: after a store, a map, or a change of the set.
--     set_each, map_each, tabulate_each           of each element of a list, after a store, after a map, and of a list made by numbers
--     as_ok, seen_ok                              of each member of a set, after a change in what it names
--     none_ok, join_ok, with_ok, minus_ok, without_ok, put_ok, keeping_ok   .. and after a change of the set
-- Assumes nothing.
use Prim.Native.Nat.{ℕ, zero, suc, ◌^◌, ◌<◌}
use mathlib.Core.Path.{◌≡◌, refl, sym, ◌∙◌}
use mathlib.Core.Bool.{Bool, true, false, not, ◌||◌, and-eq-true_iff}
use mathlib.Core.List.{List, [], ◌∷◌, map}
use mathlib.Core.Logic.{◌⊎◌, inl, inr}
use lib.ListN.{length, get_or, set}
use lib.Pow.{pow_pos, pow-lt}
use lib.Seq.{get_or-set_same, get_or-set_other}
use native.Mathlib.Decide.{ℕ_discrete}
use native.Mathlib.Omega.{arith}
use borrow.Author.Tests.{eqb-true}
use Rattle.bitset.specs.Tests.Laws.{decide, clash}
use Rattle.bitset.specs.Sets.{has, join, minus, with, without, keeping}
use Rattle.bitset.specs.Sets.Laws.{has_join, has_minus, has_none, has_one, join_lt, minus_le}
use Rattle.bitset.specs.Sets.Keeping.{has_keeping, keeping_le}
use Rattle.guard.specs.Edits.{put_in}
use Rattle.guard.specs.Fresh.{tabulate}
use Rattle.guard.proofs.Laws.Sound.{SetOk}
use Rattle.guard.proofs.Filling.{get_d_tabulate}

-- ---- lists
module _ {A : Type 0} (P : ℕ → A → Type 0) (n : ℕ) (l : List A) (d : A) (long : length l ≡ n) where
  pub set_each : (i : ℕ) (a : A) → ((j : ℕ) → j < n → (j ≡ i → ⊥) → P j (get_or l j d)) → (i < n → P i a)
      → (j : ℕ) → j < n → P j (get_or (set l i a) j d)
  set_each i a others here j h = go (ℕ_discrete j i)
    where
      go : Dec (j ≡ i) → P j (get_or (set l i a) j d)
      go (yes e) = rw (e, get_or-set_same l i a d (omega arith)) (here (omega arith))
      go (no ne) = rw (get_or-set_other l i j a d ne) (others j h ne)

get_d_map : {A : Type 0} (f : A → A) (l : List A) (i : ℕ) (d : A) → i < length l → get_or (map f l) i d ≡ f (get_or l i d)
get_d_map f [] i d h = absurd (omega arith)
get_d_map f (x ∷ l) zero d h = refl
get_d_map f (x ∷ l) (suc i) d h = get_d_map f l i d (omega arith)

pub map_each : {A : Type 0} (P : ℕ → A → Type 0) (f : A → A) (n : ℕ) (l : List A) (d : A) → length l ≡ n
    → ((j : ℕ) → j < n → P j (f (get_or l j d))) → (j : ℕ) → j < n → P j (get_or (map f l) j d)
map_each P f n l d long each j h = rw (get_d_map f l j d (omega arith)) (each j h)

pub tabulate_each : {A : Type 0} (P : ℕ → A → Type 0) (n : ℕ) (f : ℕ → A) (d : A) → ((j : ℕ) → j < n → P j (f j)) → (j : ℕ) → j < n
    → P j (get_or (tabulate n f) j d)
tabulate_each P n f d each j h = rw (get_d_tabulate f n j d h) (each j h)

-- ---- sets
-- the same set, where its members are asked for something else
pub as_ok : (w : ℕ) (live : Bool) (Q Q' : ℕ → Bool) (s : ℕ) → SetOk w live Q s
    → ((i : ℕ) → i < w → has s i ≡ true → Q i ≡ true → Q' i ≡ true) → SetOk w live Q' s
as_ok w live Q Q' s ok f = record { small = ok.small; none = ok.none; members = λ i l m. f i l m (ok.members i l m) }

-- .. as P asks of the elements of a list
pub seen_ok : {A : Type 0} (w : ℕ) (live : Bool) (P : ℕ → A → Bool) (s : ℕ) (l : List A) (d : A) (i : ℕ) (a : A) → length l ≡ w
    → SetOk w live (λ j. P j (get_or l j d)) s → (has s i ≡ true → P i (get_or l i d) ≡ true → P i a ≡ true)
    → SetOk w live (λ j. P j (get_or (set l i a) j d)) s
seen_ok w live P s l d i a long ok here =
    as_ok w live _ _ s ok
    (set_each (λ j b. has s j ≡ true → P j (get_or l j d) ≡ true → P j b ≡ true) w l d long i a (λ j h ne m p. p) (λ h. here))

module _ (w : ℕ) (live : Bool) (Q : ℕ → Bool) where
  pub none_ok : SetOk w live Q 0
  none_ok = record { small = pow_pos w; none = λ d. refl; members = λ i l m. absurd (clash _ m (has_none i)) }

  pub join_ok : (s m : ℕ) → SetOk w live Q s → live ≡ true → m < 2 ^ w → ((i : ℕ) → i < w → has m i ≡ true → Q i ≡ true)
      → SetOk w live Q (join s m)
  join_ok s m ok alive h new =
      record {
        small = join_lt w s m ok.small h;
        none = λ d. absurd (clash live alive d);
        members = λ i l e. go i l (sym (has_join s m i) ∙ e) (decide (has s i));
      }
    where
      go : (i : ℕ) → i < w → (has s i || has m i) ≡ true → (has s i ≡ true) ⊎ (has s i ≡ false) → Q i ≡ true
      go i l e (inl old) = ok.members i l old
      go i l e (inr not) = new i l (rw not at e)

  pub with_ok : (s i : ℕ) → SetOk w live Q s → live ≡ true → i < w → Q i ≡ true → SetOk w live Q (with s i)
  unfolding with
  with_ok s i ok alive h here =
      join_ok s (2 ^ i) ok alive (pow-lt h) (λ j l m. rw (eqb-true j i (sym (has_one i j) ∙ m)) here)

  pub minus_ok : (s m : ℕ) → SetOk w live Q s → SetOk w live Q (minus s m)
  minus_ok s m ok =
      record {
        small = omega (arith, ok.small, minus_le s m);
        none = λ d. omega (arith, ok.none d, minus_le s m);
        members = λ i l e. ok.members i l ((and-eq-true_iff (has s i) (not (has m i))).0 (sym (has_minus s m i) ∙ e)).0;
      }

  pub without_ok : (s i : ℕ) → SetOk w live Q s → SetOk w live Q (without s i)
  unfolding without
  without_ok s i = minus_ok s (2 ^ i)

  pub put_ok : (b : Bool) (i s : ℕ) → SetOk w live Q s → (b ≡ true → SetOk w live Q (with s i)) → SetOk w live Q (put_in b i s)
  unfolding put_in
  put_ok true i s ok new = new refl
  put_ok false i s ok new = without_ok s i ok

  pub keeping_ok : (p : ℕ → Bool) (s : ℕ) → SetOk w live Q s → SetOk w live Q (keeping w p s)
  keeping_ok p s ok =
      record {
        small = omega (arith, ok.small, keeping_le p s w);
        none = λ d. omega (arith, ok.none d, keeping_le p s w);
        members = λ i l e. ok.members i l ((and-eq-true_iff (has s i) (p i)).0 (sym (has_keeping p s w i l) ∙ e)).0;
      }
