-- The numbers that a request's kind uses, where all of them are in range.
--     span                    a property of each number from one on, so many of them
--     past_nine, past_five    none of some numbers
--     is_nine                 a kind that changes an entity and is none of create, delete and share is rename
--     asks_past               of the kinds past revoke share alone asks for rights
--     ranges_at, of_ranges    the ranges of the rule at the request's number
--     fits_take, fits_open, fits_grant, fits_list, fits_make, fits_share, fits_none      the ranges as the code tests them
--     in_login .. in_share    .. each, by the kind
--     InCreate, in_create     those of create
-- Assumes nothing.
use Prim.Native.Nat.{ℕ, zero, suc, ◌+◌, ◌≤◌, ◌<◌}
use mathlib.Core.Path.{◌≡◌, refl, sym, ap, ◌∙◌}
use mathlib.Core.Bool.{Bool, true, false, ◌&&◌, and-true, and-false}
use mathlib.Core.List.{List, [], ◌∷◌, map}
use mathlib.Core.Logic.{inl, inr}
use native.Mathlib.Decide.{ℕ_discrete}
use native.Mathlib.Omega.{arith}
use lib.Dec.{leb, ltb, eqb}
use lib.ListN.{get_or}
use borrow.Author.Tests.{ltb-true, leb-true, ne_eqb, le-ltb}
use Rattle.bitset.specs.Tests.{every, either}
use Rattle.bitset.specs.Tests.Laws.{every_at}
use Rattle.guard.specs.Level.{user_count, session_count, role_count, entity_count}
use Rattle.guard.specs.Label.{top_grade, all_categories, label_in_range_in}
use Rattle.guard.specs.Tables.{container, shared_mark, all_rights}
use Rattle.guard.specs.Sound.{top_name}
use Rattle.guard.specs.Requests.{Rule, request_count, field_in_range_in, rules, unknown, rule_of, login, logout, take, drop, openr, openw, close, create, delete, rename, grant, revoke, list, unlist, make, unmake, share, join as joining, unjoin}
use Rattle.guard.specs.Step.{in_ranges_in}
use Rattle.guard.specs.Kind as kind
use Rattle.guard.specs.Private.Inside.{asks_way, asks_name, asks_rights, OfEntity}
use Rattle.guard.specs.Private.InForce.{field_in_range, in_ranges}
use Rattle.guard.specs.declared.Request.{Request}
use Rattle.guard.proofs.Laws.Requests.{unknown_rule}

-- ---- a property of so many numbers, one after the other
abbrev pub EachFrom : (ℕ → Type 0) → ℕ → ℕ → Type 0
EachFrom P low zero = Unit {0}
EachFrom P low (suc k) = P low × EachFrom P (suc low) k

no_more : (low n : ℕ) → low ≤ n → n < low + 0 → ⊥
no_more low n l h = omega arith

pub span : (P : ℕ → Type 0) (low k : ℕ) → EachFrom P low k → (n : ℕ) → low ≤ n → n < low + k → P n
span P low zero each n l h = absurd (no_more low n l h)
span P low (suc k) (here, others) n l h = go (ℕ_discrete n low) (λ m j. span P (suc low) k others n m j)
  where
    go : Dec (n ≡ low) → (suc low ≤ n → n < suc low + k → P n) → P n
    go (yes e) more = rw e here
    go (no e) more = more (omega (arith, e)) (omega arith)

pub past : (k n : ℕ) → k ≤ n → (n ≡ k → ⊥) → suc k ≤ n
past k n h d = omega (arith, d)

pub past_nine : (n : ℕ) → 7 ≤ n → (n ≡ 7 → ⊥) → (n ≡ 8 → ⊥) → (n ≡ 9 → ⊥) → 10 ≤ n
past_nine n h a b c = past 9 n (past 8 n (past 7 n h a) b) c

pub past_five : (n : ℕ) → (n ≡ 0 → ⊥) → (n ≡ 1 → ⊥) → (n ≡ 2 → ⊥) → (n ≡ 3 → ⊥) → (n ≡ 4 → ⊥) → (n ≡ 5 → ⊥) → 6 ≤ n
past_five n a b c d e f = past 5 n (past 4 n (past 3 n (past 2 n (past 1 n (past 0 n (omega arith) a) b) c) d) e) f

pub is_nine : (n : ℕ) → OfEntity n → (n ≡ 7 → ⊥) → (n ≡ 8 → ⊥) → (n ≡ 16 → ⊥) → n ≡ 9
is_nine n (inl (h, m)) a b c = omega (arith, past 8 n (past 7 n h a) b)
is_nine n (inr e) a b c = absurd (c e)

-- of the kinds past revoke share alone asks for rights
pub asks_past : (call : ℕ) → 12 ≤ call → (call ≡ 16 → ⊥) → asks_rights call ≡ false
unfolding asks_rights asks_way asks_name either
asks_past call h not =
    let other : (k : ℕ) → k < 12 → eqb call k ≡ false = λ k l. ne_eqb call k (λ e. omega arith) in
    rw (
      other 4 (omega arith),
      other 5 (omega arith),
      other 7 (omega arith),
      other 9 (omega arith),
      other 8 (omega arith),
      other 10 (omega arith),
      other 11 (omega arith),
      ne_eqb call 16 not,
    )

-- ---- the ranges of a rule
-- the tests of a rule's ranges, in the order of its fields
abbrev pub tests : Rule → Request → List Bool
tests rule q = map (field_in_range q) rule.uses

module _ (q : Request) where
  pub rule_at : (k : ℕ) → q.call ≡ k → rule_of q ≡ get_or rules k unknown
  unfolding rule_of
  rule_at k h = ap (λ (n : ℕ). get_or rules n unknown) h

  pub ranges_at : (k : ℕ) → q.call ≡ k → in_ranges q ≡ every (tests (get_or rules k unknown) q)
  unfolding in_ranges_in
  ranges_at k h = ap (λ (rule : Rule). every (tests rule q)) (rule_at k h)

  -- .. of the kinds that use the same fields
  abbrev Same : Bool → ℕ → Type 0
  Same b k = b ≡ every (tests (get_or rules k unknown) q)

  by_span : (b : Bool) (low k : ℕ) → EachFrom (Same b) low k → low ≤ q.call → q.call < low + k → b ≡ in_ranges q
  by_span b low k each l h = span (Same b) low k each q.call l h ∙ sym (ranges_at q.call refl)

  pub fits_take : 2 ≤ q.call → q.call < 4 → (ltb q.seat session_count && ltb q.role role_count) ≡ in_ranges q
  unfolding rules take drop field_in_range_in every
  fits_take l h = by_span _ 2 2 (simp and-true, (simp and-true, tt)) l h

  pub fits_open : 4 ≤ q.call → q.call < 7 → (ltb q.seat session_count && ltb q.entity entity_count) ≡ in_ranges q
  unfolding rules openr openw close field_in_range_in every
  fits_open l h = by_span _ 4 3 (simp and-true, (simp and-true, (simp and-true, tt))) l h

  pub fits_grant : 10 ≤ q.call → q.call < 12
      → (ltb q.seat session_count && (ltb q.role role_count && (ltb q.entity entity_count && (leb 1 q.rights && leb q.rights all_rights)))) ≡ in_ranges q
  unfolding rules grant revoke field_in_range_in every
  fits_grant l h = by_span _ 10 2 (simp and-true, (simp and-true, tt)) l h

  pub fits_list : 12 ≤ q.call → q.call < 14 → (ltb q.seat session_count && (ltb q.role role_count && ltb q.user user_count)) ≡ in_ranges q
  unfolding rules list unlist field_in_range_in every
  fits_list l h = by_span _ 12 2 (simp and-true, (simp and-true, tt)) l h

  pub fits_make : 14 ≤ q.call → q.call < 16 → (ltb q.seat session_count && ltb q.role role_count) ≡ in_ranges q
  unfolding rules make unmake field_in_range_in every
  fits_make l h = by_span _ 14 2 (simp and-true, (simp and-true, tt)) l h

  pub fits_share : q.call ≡ kind.share → (ltb q.seat session_count && (ltb q.entity entity_count && leb q.shared shared_mark)) ≡ in_ranges q
  unfolding rules share field_in_range_in every
  fits_share c = sym (ranges_at 16 c ∙ simp and-true)

  pub fits_tie : 17 ≤ q.call → q.call < 19 → (ltb q.seat session_count && (ltb q.role role_count && ltb q.junior role_count)) ≡ in_ranges q
  unfolding rules joining unjoin field_in_range_in every
  fits_tie l h = by_span _ 17 2 (simp and-true, (simp and-true, tt)) l h

  pub fits_none : request_count ≤ q.call → false ≡ in_ranges q
  unfolding in_ranges_in unknown field_in_range_in every
  fits_none h = rw (unknown_rule q h, le-ltb q.call request_count h, and-false (ltb q.seat session_count))

  module _ (ok : in_ranges q ≡ true) where
    pub of_ranges : (k : ℕ) → q.call ≡ k → every (tests (get_or rules k unknown) q) ≡ true
    of_ranges k h = sym (ranges_at k h) ∙ ok

    pub in_login : q.call ≡ kind.login → (q.seat < session_count) × (q.user < user_count) × (q.grade ≤ top_grade) × (q.cats ≤ all_categories)
    unfolding rules login field_in_range_in label_in_range_in
    in_login c =
        let met = every_at _ (of_ranges 0 c) in
        (ltb-true _ _ (met 0), ltb-true _ _ (met 1), leb-true _ _ (every_at _ (met 2) 0), leb-true _ _ (every_at _ (met 2) 1))

    pub in_logout : q.call ≡ kind.logout → q.seat < session_count
    unfolding rules logout field_in_range_in
    in_logout c = ltb-true _ _ (every_at _ (of_ranges 1 c) 0)

    pub in_take : q.call ≡ kind.take → (q.seat < session_count) × (q.role < role_count)
    unfolding rules take field_in_range_in
    in_take c = let met = every_at _ (of_ranges 2 c) in (ltb-true _ _ (met 0), ltb-true _ _ (met 1))

    pub in_drop : q.call ≡ kind.drop → (q.seat < session_count) × (q.role < role_count)
    unfolding rules drop field_in_range_in
    in_drop c = let met = every_at _ (of_ranges 3 c) in (ltb-true _ _ (met 0), ltb-true _ _ (met 1))

    pub in_openr : q.call ≡ kind.openr → (q.seat < session_count) × (q.entity < entity_count)
    unfolding rules openr field_in_range_in
    in_openr c = let met = every_at _ (of_ranges 4 c) in (ltb-true _ _ (met 0), ltb-true _ _ (met 1))

    pub in_openw : q.call ≡ kind.openw → (q.seat < session_count) × (q.entity < entity_count)
    unfolding rules openw field_in_range_in
    in_openw c = let met = every_at _ (of_ranges 5 c) in (ltb-true _ _ (met 0), ltb-true _ _ (met 1))

    pub in_close : q.call ≡ kind.close → (q.seat < session_count) × (q.entity < entity_count)
    unfolding rules close field_in_range_in
    in_close c = let met = every_at _ (of_ranges 6 c) in (ltb-true _ _ (met 0), ltb-true _ _ (met 1))

    pub in_delete : q.call ≡ kind.delete → (q.seat < session_count) × (q.entity < entity_count)
    unfolding rules delete field_in_range_in
    in_delete c = let met = every_at _ (of_ranges 8 c) in (ltb-true _ _ (met 0), ltb-true _ _ (met 1))

    pub in_rename : q.call ≡ kind.rename → (q.seat < session_count) × (q.entity < entity_count) × (1 ≤ q.name) × (q.name ≤ top_name)
    unfolding rules rename field_in_range_in
    in_rename c =
        let met = every_at _ (of_ranges 9 c) in
        (ltb-true _ _ (met 0), ltb-true _ _ (met 1), leb-true _ _ (every_at _ (met 2) 0), leb-true _ _ (every_at _ (met 2) 1))

    pub in_grant : q.call ≡ kind.grant → (q.seat < session_count) × (q.role < role_count) × (q.entity < entity_count) × (q.rights ≤ all_rights)
    unfolding rules grant field_in_range_in
    in_grant c =
        let met = every_at _ (of_ranges 10 c) in
        (ltb-true _ _ (met 0), ltb-true _ _ (met 1), ltb-true _ _ (met 2), leb-true _ _ (every_at _ (met 3) 1))

    pub in_revoke : q.call ≡ kind.revoke → (q.seat < session_count) × (q.role < role_count) × (q.entity < entity_count) × (q.rights ≤ all_rights)
    unfolding rules revoke grant field_in_range_in
    in_revoke c =
        let met = every_at _ (of_ranges 11 c) in
        (ltb-true _ _ (met 0), ltb-true _ _ (met 1), ltb-true _ _ (met 2), leb-true _ _ (every_at _ (met 3) 1))

    pub in_list : q.call ≡ kind.list → (q.seat < session_count) × (q.role < role_count) × (q.user < user_count)
    unfolding rules list field_in_range_in
    in_list c = let met = every_at _ (of_ranges 12 c) in (ltb-true _ _ (met 0), ltb-true _ _ (met 1), ltb-true _ _ (met 2))

    pub in_unlist : q.call ≡ kind.unlist → (q.seat < session_count) × (q.role < role_count) × (q.user < user_count)
    unfolding rules unlist field_in_range_in
    in_unlist c = let met = every_at _ (of_ranges 13 c) in (ltb-true _ _ (met 0), ltb-true _ _ (met 1), ltb-true _ _ (met 2))

    pub in_make : q.call ≡ kind.make → (q.seat < session_count) × (q.role < role_count)
    unfolding rules make field_in_range_in
    in_make c = let met = every_at _ (of_ranges 14 c) in (ltb-true _ _ (met 0), ltb-true _ _ (met 1))

    pub in_unmake : q.call ≡ kind.unmake → (q.seat < session_count) × (q.role < role_count)
    unfolding rules unmake field_in_range_in
    in_unmake c = let met = every_at _ (of_ranges 15 c) in (ltb-true _ _ (met 0), ltb-true _ _ (met 1))

    pub in_share : q.call ≡ kind.share → (q.seat < session_count) × (q.entity < entity_count) × (q.shared ≤ shared_mark)
    unfolding rules share field_in_range_in
    in_share c = let met = every_at _ (of_ranges 16 c) in (ltb-true _ _ (met 0), ltb-true _ _ (met 1), leb-true _ _ (met 2))

    -- join and unjoin
    pub in_tie : 17 ≤ q.call → q.call < 19 → (q.seat < session_count) × (q.role < role_count) × (q.junior < role_count)
    unfolding every
    in_tie l h =
        let met = every_at (ltb q.seat session_count ∷ ltb q.role role_count ∷ ltb q.junior role_count ∷ []) (simp and-true (fits_tie l h ∙ ok)) in
        (ltb-true _ _ (met 0), ltb-true _ _ (met 1), ltb-true _ _ (met 2))

    pub record InCreate : Type 0 where
      pub seat : q.seat < session_count
      pub entity : q.entity < entity_count
      pub kind : q.kind ≤ container
      pub parent : q.parent < entity_count
      pub named : 1 ≤ q.name
      pub name : q.name ≤ top_name
      pub grade : q.grade ≤ top_grade
      pub cats : q.cats ≤ all_categories
      pub role : q.role < role_count

    pub in_create : q.call ≡ kind.create → InCreate
    unfolding rules create field_in_range_in label_in_range_in
    in_create c =
        let met = every_at _ (of_ranges 7 c) in
        record {
          seat = ltb-true _ _ (met 0);
          entity = ltb-true _ _ (met 1);
          kind = leb-true _ _ (met 2);
          parent = ltb-true _ _ (met 3);
          named = leb-true _ _ (every_at _ (met 4) 0);
          name = leb-true _ _ (every_at _ (met 4) 1);
          grade = leb-true _ _ (every_at _ (met 5) 0);
          cats = leb-true _ _ (every_at _ (met 5) 1);
          role = ltb-true _ _ (met 6);
        }
