-- The fields of a row, one after the other, as a reader that leaves at the first fault meets them.
--     field_missing, field_extra, field_number                  what a field is taken as
--     take_split                                                some fields, and more
--     Took, took_none, took, faulty                             the fields so far are numbers; the next one is a fault
--     asks_bad, asks_user, asks_request                         what the line asks
--     table, table_used                                         which fields a word uses
-- Assumes nothing.
use Prim.Native.Nat.{ℕ, zero, suc, ◌+◌, ◌<◌}
use mathlib.Core.Path.{◌≡◌, refl, ap, sym, ◌∙◌}
use mathlib.Core.Bool.{Bool, true, false, not, cond, ◌&&◌, and-eq-true_iff}
use mathlib.Core.List.{List, [], ◌∷◌, ◌++◌}
use native.Mathlib.Nat.{add-zero, zero-add, suc-add}
use native.Mathlib.Omega.{arith}
use lib.ListN.{get_or}
use borrow.Author.Tests.{ne_eqb, not-true}
use Rattle.bitset.specs.Sets.{has}
use Rattle.bitset.specs.Tests.{all}
use Rattle.bitset.specs.Tests.Laws.{all_e}
use Rattle.guard.proofs.Compute.{computing}
use Rattle.std.specs.Prelude.{Option, Some, None}
use Rattle.script.specs.Line.{user_word, call_of, Numbers, these, unreadable, joined, asks, used, is_used, ordinal, fields, optional_fields}
use Rattle.script.specs.Private.Rows.{no_word, field_count, taken_as, joins, take_from, front, ahead, members}
use Rattle.script.specs.declared.line.Line.TheVariants.{Ask, SetUser}
use Rattle.script.specs.declared.fields.Six.{Six}

-- ---- one field: used or not, and a number or not
module _ (u g : Bool) (n : ℕ) {a b : Bool} (h : a ≡ u) (k : b ≡ g) where
  pub field_missing : (a && not b) ≡ true → None ≡ taken_as u g n
  unfolding taken_as
  field_missing e = rw (← h, ← k) (go a b e)
    where
      go : (a b : Bool) → (a && not b) ≡ true → None ≡ taken_as a b n
      go true true e = cc
      go true false e = refl
      go false b e = cc

  pub field_extra : (b && not a) ≡ true → None ≡ taken_as u g n
  unfolding taken_as
  field_extra e = rw (← h, ← k) (go a b e)
    where
      go : (a b : Bool) → (b && not a) ≡ true → None ≡ taken_as a b n
      go true true e = cc
      go true false e = refl
      go false true e = refl
      go false false e = cc

  pub field_number : (a && not b) ≡ false → (b && not a) ≡ false → Some n ≡ taken_as u g n
  unfolding taken_as
  field_number e f = rw (← h, ← k) (go a b e f)
    where
      go : (a b : Bool) → (a && not b) ≡ false → (b && not a) ≡ false → Some n ≡ taken_as a b n
      go true true e f = refl
      go true false e f = cc
      go false true e f = cc
      go false false e f = refl

-- ---- the fields so far
pub step_on : (i k : ℕ) → suc i + k ≡ i + suc k
step_on i k = omega arith

-- k fields and n more
pub take_split : (u g : ℕ) (v : List ℕ) (i k n : ℕ) (x : Numbers) → take_from u g v i (k + n) x ≡ take_from u g v i k (take_from u g v (i + k) n x)
unfolding take_from
take_split u g v i zero n x = rw (add-zero, zero-add)
take_split u g v i (suc k) n x = rw (suc-add, ← step_on) (ap (joins (taken_as (has u i) (has g i) (get_or v i 0))) (take_split u g v (suc i) k n x))

front_more : (ns : List ℕ) (n : ℕ) (x : Numbers) → front (ns ++ (n ∷ [])) x ≡ front ns (joined n x)
unfolding front
front_more [] n x = refl
front_more (m ∷ ns) n x = ap (joined m) (front_more ns n x)

front_bad : (ns : List ℕ) → front ns unreadable ≡ unreadable
unfolding front joined
front_bad [] = refl
front_bad (n ∷ ns) = rw (front_bad ns)

-- k fields from name i on are the numbers ns
pub record Took (u g : ℕ) (v : List ℕ) (i k : ℕ) (ns : List ℕ) : Type 0 where
  pub so : (x : Numbers) → take_from u g v i k x ≡ front ns x

pub took_none : {u g : ℕ} {v : List ℕ} {i : ℕ} → Took u g v i 0 []
unfolding take_from front
took_none = record { so = λ x. refl }

module _ {u g : ℕ} {v : List ℕ} {i k : ℕ} {ns : List ℕ} {r : Option ℕ} (p : Took u g v i k ns) (h : r ≡ taken_as (has u (i + k)) (has g (i + k)) (get_or v (i + k) 0)) where
  pub took : {n : ℕ} → r ≡ Some n → Took u g v i (k + 1) (ns ++ (n ∷ []))
  unfolding take_from joins
  took {n} e =
      record {
        so = λ x.
            take_split u g v i k 1 x
            ∙ p.so _
            ∙ ap (λ (t : Option ℕ). front ns (joins t x)) (sym h ∙ e)
            ∙ sym (front_more ns n x);
      }

  pub faulty : r ≡ None → (m : ℕ) (x : Numbers) → take_from u g v i (k + suc m) x ≡ unreadable
  unfolding take_from joins
  faulty e m x =
      take_split u g v i k (suc m) x ∙ p.so _ ∙ ap (λ (t : Option ℕ). front ns (joins t (take_from u g v (suc (i + k)) m x))) (sym h ∙ e) ∙ front_bad ns

-- ---- what the line asks
module _ (w : ℕ) (six : Six) (x : Numbers) where
  pub asks_bad : x ≡ unreadable → None ≡ asks w (ahead (Some six) x)
  unfolding asks ahead front joined
  asks_bad h = rw h

  module _ (name level cats rights ceiling shared junior : ℕ) (h : x ≡ these (name ∷ level ∷ cats ∷ rights ∷ ceiling ∷ shared ∷ junior ∷ [])) where
    pub asks_user : w ≡ user_word → Some (SetUser (record { user = six.user; level = level; cats = cats; ceiling = ceiling })) ≡ asks w (ahead (Some six) x)
    unfolding asks ahead front joined
    asks_user e = rw (h, e)

    pub asks_request : (w ≡ user_word → ⊥)
        → Some
        (Ask
        (record {
          call = call_of w;
          seat = six.seat;
          user = six.user;
          role = six.role;
          entity = six.entity;
          parent = six.parent;
          kind = six.kind;
          name = name;
          grade = level;
          cats = cats;
          rights = rights;
          shared = shared;
          junior = junior;
        }))
        ≡ asks w (ahead (Some six) x)
    unfolding asks ahead front joined
    asks_request e = rw (h, ne_eqb w user_word e)

-- ---- which fields a word uses: the set of each word, and the definition, by computing
unfoldable pub table : List ℕ
table = 2820 ∷ 774 ∷ 2 ∷ 10 ∷ 10 ∷ 18 ∷ 18 ∷ 18 ∷ 1018 ∷ 18 ∷ 146 ∷ 1050 ∷ 1050 ∷ 14 ∷ 14 ∷ 10 ∷ 10 ∷ 4114 ∷ 8202 ∷ 8202 ∷ []

alike : List Bool → List Bool → Bool
alike [] [] = true
alike [] (b ∷ bs) = false
alike (a ∷ more) [] = false
alike (a ∷ more) (b ∷ bs) = cond a b (not b) && alike more bs

alike_same : (l m : List Bool) → alike l m ≡ true → l ≡ m
unfolding alike
alike_same [] [] h = refl
alike_same [] (b ∷ bs) h = cc
alike_same (a ∷ more) [] h = cc
alike_same (a ∷ more) (b ∷ bs) h =
    let (p, q) = (and-eq-true_iff (cond a b (not b)) (alike more bs)).0 h in go a b p (alike_same more bs q)
  where
    go : (a b : Bool) → cond a b (not b) ≡ true → more ≡ bs → a ∷ more ≡ b ∷ bs
    go true b p e = rw (p, e)
    go false b p e = rw (not-true b p, e)

table_right : all no_word (λ k. alike (members (get_or table k 0) 1 field_count) (used k)) ≡ true
unfolding computing table alike members used is_used ordinal fields optional_fields
table_right = refl

pub table_used : (w : ℕ) → w < no_word → members (get_or table w 0) 1 field_count ≡ used w
table_used w h = alike_same _ _ (all_e no_word (λ k. alike (members (get_or table k 0) 1 field_count) (used k)) table_right w h)
