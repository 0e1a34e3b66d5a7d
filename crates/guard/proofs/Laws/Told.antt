-- The lowest number at which a test is met, and the role that the check of a right tells.
--     lowest_none, lowest_at, lowest_e      what `lowest` tells: a number below n at which the test is met, and at none below it
--     told_some                             a number is told exactly if the test is met at some number below n
--     lowest_cong                           tests that agree below n tell the same
--     byte_read                             a byte of a batch tells what it was stored for
--     right_some                            "x has a right on e" in document 01's words: a role held by x, of at least e's level, has it
--     right_by_lem                              .. over the list of roles
--     role_for_lem, role_none                   the role that the check of a right tells, and that it tells none
--     Opening, opening_same                 what openr and openw tell, by the role for the right
--     openr_tells, openw_tells              accepted, both tell the role for the right, and one is told
--     refused_tells, others_tell            all else tells none
-- Assumes nothing.
use Rattle.std.specs.Option.{option_or}
use Rattle.std.specs.Prelude.{Option, Some, None, is_some}
use Prim.Native.Nat.{ℕ, zero, suc, ◌≤◌, ◌<◌}
use mathlib.Core.Path.{◌≡◌, refl, sym, ap, ◌∙◌}
use mathlib.Core.Bool.{Bool, true, false, ◌||◌, cond, true≢false}
use mathlib.Core.List.{[], ◌∷◌}
use native.Mathlib.Omega.{arith}
use native.Mathlib.Decide.{dec_lt}
use lib.Dec.{leb, eqb}
use lib.ListN.{get_or}
use borrow.Author.Tests.{eqb-true, ne_eqb}
use Rattle.bitset.specs.Tests.{every, some}
use Rattle.bitset.specs.Tests.Laws.{none_below, some_no_e, either_no_l, of_not_false}
use Rattle.guard.specs.Level.{role_count, role_level, entity_level}
use Rattle.guard.specs.Told.{lowest, role_byte}
use Rattle.guard.specs.Tables.{read, write, holds, role_has, role_for, has_right}
use Rattle.guard.specs.Conditions.{cannot_open}
use Rattle.guard.specs.Requests.{openr, openw, unknown, rules, rule_of}
use Rattle.guard.specs.Step.{answer, role_opening, role_told, role_told_in}
use Rattle.guard.specs.Kind as kind
use Rattle.guard.specs.Private.Scan.{read_byte}
use Rattle.guard.specs.declared.Tables.{Tables}
use Rattle.guard.specs.declared.Request.{Request}
use Rattle.guard.proofs.Laws.Requests.{answer_none, numbered}
use Rattle.guard.proofs.Laws.Juniors.{has_in}

-- ---- the lowest number
pub lowest_none : (n : ℕ) (p : ℕ → Bool) → ((k : ℕ) → k < n → p k ≡ false) → lowest n p ≡ None
unfolding lowest
lowest_none zero p f = refl
lowest_none (suc n) p f = rw (lowest_none n p (λ k l. f k (omega arith)), f n (omega arith))

pub lowest_at : (n : ℕ) (p : ℕ → Bool) (r : ℕ) → r < n → p r ≡ true → ((k : ℕ) → k < r → p k ≡ false) → lowest n p ≡ Some r
unfolding lowest
lowest_at zero p r l h low = absurd (none_below r l)
lowest_at (suc n) p r l h low = go (dec_lt r n) (λ m. lowest_at n p r m h low)
  where
    go : Dec (r < n) → (r < n → lowest n p ≡ Some r) → option_or (lowest n p) (cond (p n) (Some n) None) ≡ Some r
    go (yes m) before = rw (before m)
    go (no m) before = let same : r ≡ n = omega arith in rw (lowest_none n p (λ k l. low k (omega arith)), ← same, h)

pub told_some : (n : ℕ) (p : ℕ → Bool) → is_some (lowest n p) ≡ some n p
unfolding lowest some
told_some zero p = refl
told_some (suc n) p = go (lowest n p) (told_some n p) (p n)
  where
    go : (a : Option ℕ) → is_some a ≡ some n p → (b : Bool) → is_some (option_or a (cond b (Some n) None)) ≡ (some n p || b)
    go (Some r) e b = rw (← e)
    go None e true = rw (← e)
    go None e false = rw (← e)

none_told : (n : ℕ) (p : ℕ → Bool) → lowest n p ≡ None → (k : ℕ) → k < n → p k ≡ false
none_told n p h = some_no_e n p (sym (told_some n p) ∙ ap is_some h)

pub lowest_e : (n : ℕ) (p : ℕ → Bool) (r : ℕ) → lowest n p ≡ Some r → (r < n) × (p r ≡ true) × ((k : ℕ) → k < r → p k ≡ false)
unfolding lowest role_byte
lowest_e zero p r h = absurd (true≢false (ap is_some (sym h)))
lowest_e (suc n) p r h = go (lowest n p) refl (p n) refl h (lowest_e n p r)
  where
    go : (a : Option ℕ) → lowest n p ≡ a → (b : Bool) → p n ≡ b → option_or a (cond b (Some n) None) ≡ Some r
        → (lowest n p ≡ Some r → (r < n) × (p r ≡ true) × ((k : ℕ) → k < r → p k ≡ false))
        → (r < suc n) × (p r ≡ true) × ((k : ℕ) → k < r → p k ≡ false)
    go (Some s) e b m h before = let (l, met, low) = before (e ∙ h) in (omega arith, met, low)
    go None e true m h before = let same : n ≡ r = ap role_byte h in (omega arith, rw (← same) m, λ k l. none_told n p e k (omega arith))
    go None e false m h before = absurd (true≢false (ap is_some (sym h)))

pub lowest_cong : (n : ℕ) (p q : ℕ → Bool) → ((k : ℕ) → k < n → p k ≡ q k) → lowest n p ≡ lowest n q
unfolding lowest
lowest_cong zero p q f = refl
lowest_cong (suc n) p q f = rw (lowest_cong n p q (λ k l. f k (omega arith)), f n (omega arith))

-- ---- a byte of a batch
pub byte_read : (n : ℕ) (p : ℕ → Bool) → n ≤ 255 → read_byte (role_byte (lowest n p)) ≡ lowest n p
unfolding read_byte role_byte
byte_read n p small = go (lowest n p) refl
  where
    go : (a : Option ℕ) → lowest n p ≡ a → read_byte (role_byte a) ≡ a
    go (Some r) e = let (l, met, low) = lowest_e n p r e in rw (ne_eqb r 255 (λ h. omega arith))
    go None e = refl

-- ---- the check of a right
module _ (t : Tables) (x right e : ℕ) where
  -- role r is held by x, of at least e's level, and has the right, itself or through a role below it
  abbrev pub Gives : ℕ → Bool
  Gives r = every (leb (entity_level e) (role_level r) ∷ holds t x r ∷ role_has t r right e ∷ [])

  -- "x has a right on e" means that a role held by x, of at least e's level, has it.
  pub right_some : has_right t x right e ≡ some role_count Gives
  unfolding has_right role_for
  right_some = told_some role_count Gives

  -- over the list of roles
  pub right_by_lem : has_right t x right e ≡ some 16 (λ r. every (leb (entity_level e) (role_level r) ∷ holds t x r ∷ has_in t.roles right e r ∷ []))
  unfolding role_has
  right_by_lem = right_some

  -- The check of a right tells the lowest-numbered held role that gives it, or that none does.
  pub role_for_lem : (r : ℕ) → role_for t x right e ≡ Some r → (r < role_count) × (Gives r ≡ true) × ((k : ℕ) → k < r → Gives k ≡ false)
  unfolding role_for
  role_for_lem r = lowest_e role_count Gives r

  pub role_none : role_for t x right e ≡ None → (k : ℕ) → k < role_count → Gives k ≡ false
  unfolding role_for
  role_none = none_told role_count Gives

-- ---- what a request tells
-- of kind `call`, by x, on e: the two kinds that tell something
abbrev pub Opening : Tables → ℕ → ℕ → ℕ → Option ℕ
Opening t call x e = cond (eqb call kind.openr) (role_for t x read e) (cond (eqb call kind.openw) (role_for t x write e) None)

pub opening_same : (t u : Tables) (call x y e f : ℕ) → (call ≡ kind.openr → role_for t x read e ≡ role_for u y read f)
    → (call ≡ kind.openw → role_for t x write e ≡ role_for u y write f) → Opening t call x e ≡ Opening u call y f
opening_same t u call x y e f reads writes = go (eqb call kind.openr) refl (eqb call kind.openw) refl
  where
    go : (r : Bool) → eqb call kind.openr ≡ r → (w : Bool) → eqb call kind.openw ≡ w
        → cond r (role_for t x read e) (cond w (role_for t x write e) None) ≡ cond r (role_for u y read f) (cond w (role_for u y write f) None)
    go true h w k = reads (eqb-true _ _ h)
    go false h true k = writes (eqb-true _ _ k)
    go false h false k = refl

module _ (t : Tables) (q : Request) where
  can_open : (right : ℕ) → cannot_open t q right ≡ false → has_right t q.seat right q.entity ≡ true
  unfolding cannot_open
  can_open right h = of_not_false _ (either_no_l _ _ h)

  -- Accepted openr and openw hand back, beside the 0, the role for read or write on the entity;
  pub openr_tells : q.call ≡ kind.openr → answer t q ≡ 0 → (role_told t q ≡ role_for t q.seat read q.entity) × (is_some (role_told t q) ≡ true)
  unfolding role_told_in role_opening rule_of openr has_right
  openr_tells is done =
      let rule : rule_of q ≡ openr = ap (λ n. get_or rules n unknown) is ∙ numbered.4 in
      (rw (done, is), rw (done, is) (can_open read (rw rule at ((answer_none t q).0 done 13))))

  pub openw_tells : q.call ≡ kind.openw → answer t q ≡ 0 → (role_told t q ≡ role_for t q.seat write q.entity) × (is_some (role_told t q) ≡ true)
  unfolding role_told_in role_opening rule_of openw has_right
  openw_tells is done =
      let rule : rule_of q ≡ openw = ap (λ n. get_or rules n unknown) is ∙ numbered.5 in
      (rw (done, is), rw (done, is) (can_open write (rw rule at ((answer_none t q).0 done 13))))

  -- all else hands back none.
  pub refused_tells : (answer t q ≡ 0 → ⊥) → role_told t q ≡ None
  unfolding role_told_in
  refused_tells h = rw (ne_eqb (answer t q) 0 h)

  pub others_tell : (q.call ≡ kind.openr → ⊥) → (q.call ≡ kind.openw → ⊥) → role_told t q ≡ None
  unfolding role_told_in role_opening
  others_tell r w = rw (ne_eqb q.call kind.openr r, ne_eqb q.call kind.openw w) (go (eqb (answer t q) 0))
    where
      go : (b : Bool) → ◌≡◌ {A = Option ℕ} (cond b None None) None
      go true = refl
      go false = refl
