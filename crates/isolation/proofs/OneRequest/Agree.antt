-- Agree: two sound tables with equal upper parts refuse a request alike whose seat and all that it names are upper.
--     agrees          each rule: condition by condition, a later one where those before it are unmet
-- Assumes nothing.
use Rattle.std.specs.Prelude.{ℕ, ◌≤◌, ◌<◌, ◌≡◌, Bool, true, false, List, [], ◌∷◌, map, leb, ltb}
use Rattle.std.proofs.Math.Path.{refl, ap, ap₂}
use Rattle.std.proofs.Common.{◌∙◌, inl, inr, arith}
use Rattle.std.proofs.Math.Bool.{not}
use Rattle.std.proofs.Math.Decide.{dec_lt}
use Rattle.std.proofs.Math.Dec.{eqb}
use borrow.Author.Tests.{ltb-true}
use Rattle.bitset.specs.Tests.{every, either}
use Rattle.bitset.specs.Tests.Laws.{every_at, some_cong, of_not_false}
use Rattle.bitset.specs.Sets.{has}
use Rattle.guard.specs.Level.{role_count, entity_count, session_level, role_level, entity_level, is_root, keeper_of}
use Rattle.guard.specs.Label.{dominates, same_label}
use Rattle.guard.specs.Tables.{edition1, in_edition1, session_at, entity_at, has_right, execute, read, write, own, object, container, shared_mark, lists, is_shared, is_child}
use Rattle.guard.specs.Sound.{sound}
use Rattle.guard.specs.Refusals.{Refusal, ◌when◌}
use Rattle.guard.specs.Conditions.{label_asked, seat_live, user_too_low, seat_dead, entity_below_seat, create_out_of_level, grant_below, tie_out_of_level, user_unlisted, keeper_not_held, closes_cycle, cannot_open, cannot_change_in, cannot_change, not_owned, role_held, open_for_reading, open_for_writing, tied, not_open, not_tied, entity_dead, role_dead, junior_dead, role_live, name_taken, has_children, role_tied, recorded_parent}
use Rattle.guard.specs.Requests.{Rule, field_in_range_in, login, logout, take, drop, openr, openw, close, create, delete, rename, grant, revoke, list, unlist, make, unmake, share, join, unjoin, unknown, rules, rule_of}
use Rattle.guard.specs.Private.InForce.{field_in_range}
use Rattle.isolation.specs.Upper.{first_entity, field_upper}
use Rattle.guard.specs.declared.Label.{Label}
use Rattle.guard.specs.declared.Entity.{Entity}
use Rattle.guard.specs.declared.Tables.{Tables}
use Rattle.guard.specs.declared.Request.{Request}
use Rattle.guard.proofs.Laws.Refusals.{Alike}
use Rattle.guard.proofs.Laws.Step.{each_rule}
use Rattle.guard.proofs.Laws.Sound.Facts.{TiesOk}
use Rattle.guard.proofs.Laws.Sound.{formed_e, parent_level}
use Rattle.isolation.proofs.OneRequest.{◌and◌}
use Rattle.isolation.proofs.OneRequest.Views.{upper_seat, upper_role_lem, upper_entity, Same, live_same, user_same, label_same, holds_same, reading_same, writing_same, live_same_at, listed_same, junior_same, entity_same, tie_same, below_same, has_right_same, reaches_same, none_below, child_same}

-- one condition after another, each the same in both; a later one may use that the one before is unmet
infixr 10 ◌also◌
◌also◌ : {n : ℕ} {b c : Bool} {R : Type 0} → b ≡ c → R → (n ≡ n) × (b ≡ c) × (b ≡ false → c ≡ false → R)
e also rest = (refl, e, λ p q. rest)

infixr 10 ◌then◌
◌then◌ : {n : ℕ} {b c : Bool} {R : Type 0} → b ≡ c → (b ≡ false → R) → (n ≡ n) × (b ≡ c) × (b ≡ false → c ≡ false → R)
e then rest = (refl, e, λ p q. rest p)

module _ (L : ℕ) (q : Request) (t u : Tables) (same : Same L t u) (st : sound t ≡ true) (su : sound u ≡ true) where
  -- what is named is upper
  abbrev Seat : Type 0
  Seat = leb L (session_level q.seat) ≡ true

  abbrev Held : Type 0
  Held = leb L (role_level q.role) ≡ true

  abbrev Junior : Type 0
  Junior = leb L (role_level q.junior) ≡ true

  abbrev Inside : ℕ → Type 0
  Inside e = leb L (entity_level e) ≡ true

  -- ties stay in their level
  ties : TiesOk t.roles
  ties = (formed_e t st).ties

  ties' : TiesOk u.roles
  ties' = (formed_e u su).ties

  -- ---- the conditions
  seat_live_same : Seat → seat_live t q ≡ seat_live u q
  seat_live_same s = live_same L t u same q.seat (upper_seat L q.seat s)

  seat_dead_same : Seat → seat_dead t q ≡ seat_dead u q
  seat_dead_same s = ap not (seat_live_same s)

  user_too_low_same : user_too_low t q ≡ user_too_low u q
  unfolding user_too_low
  user_too_low_same = rw same.users

  at_same : (e : ℕ) → Inside e → entity_at t e ≡ entity_at u e
  at_same e up = entity_same L t u same e (upper_entity L e up)

  entity_dead_same : Inside q.entity → entity_dead t q ≡ entity_dead u q
  entity_dead_same e = ap (λ (r : Entity). not r.live) (at_same q.entity e)

  role_live_same_lem : Held → role_live t q ≡ role_live u q
  role_live_same_lem r = live_same_at L t u same q.role (upper_role_lem L q.role r)

  role_dead_same : Held → role_dead t q ≡ role_dead u q
  role_dead_same r = ap not (role_live_same_lem r)

  junior_dead_same : Junior → junior_dead t q ≡ junior_dead u q
  junior_dead_same j = ap not (live_same_at L t u same q.junior (upper_role_lem L q.junior j))

  role_held_same : Seat → Held → role_held t q ≡ role_held u q
  role_held_same s r = holds_same L t u same q.seat q.role (upper_seat L q.seat s) (upper_role_lem L q.role r)

  keeper_not_held_same : Seat → Held → keeper_not_held t q ≡ keeper_not_held u q
  keeper_not_held_same s r =
      let up = upper_role_lem L q.role r in
      ap not (holds_same L t u same q.seat (keeper_of (role_level q.role)) (upper_seat L q.seat s) (omega arith))

  user_listed_same : (user : ℕ) → Held → lists t q.role user ≡ lists u q.role user
  user_listed_same user r = ap (λ (s : ℕ). has s user) (listed_same L t u same q.role (upper_role_lem L q.role r))

  user_unlisted_same : Seat → Held → user_unlisted t q ≡ user_unlisted u q
  user_unlisted_same s r = rw (user_same L t u same q.seat (upper_seat L q.seat s)) (ap not (user_listed_same (session_at u q.seat).user r))

  tied_same : Held → Junior → tied t q ≡ tied u q
  tied_same r j = junior_same L t u same q.role q.junior (upper_role_lem L q.role r) (upper_role_lem L q.junior j)

  -- what is below the junior
  closes_cycle_same : Junior → ltb q.role role_count ≡ true → ltb q.junior role_count ≡ true → closes_cycle t q ≡ closes_cycle u q
  unfolding closes_cycle
  closes_cycle_same j l k =
      ap (either (eqb q.role q.junior))
      (below_same L t u same ties ties' q.junior q.role (ltb-true _ _ k) (ltb-true _ _ l) (upper_role_lem L q.junior j))

  role_tied_same : Held → ltb q.role role_count ≡ true → role_tied t q ≡ role_tied u q
  unfolding role_tied
  role_tied_same r l =
      let up = upper_role_lem L q.role r in
      let low = ltb-true q.role role_count l in
      some_cong role_count _ _ (λ k h.
      ap₂ either (tie_same L t u same ties ties' q.role k low h (inl up)) (tie_same L t u same ties ties' k q.role h low (inr up)))

  labels_same : (f : Label → Label → Bool) → Seat → Inside q.entity
      → not (f (session_at t q.seat).label (entity_at t q.entity).label) ≡ not (f (session_at u q.seat).label (entity_at u q.entity).label)
  labels_same f s e = rw (label_same L t u same q.seat (upper_seat L q.seat s), at_same q.entity e)

  reading_as : Seat → Inside q.entity → open_for_reading t q ≡ open_for_reading u q
  reading_as s e = reading_same L t u same q.seat q.entity (upper_seat L q.seat s) (upper_entity L q.entity e)

  writing_as : Seat → Inside q.entity → open_for_writing t q ≡ open_for_writing u q
  writing_as s e = writing_same L t u same q.seat q.entity (upper_seat L q.seat s) (upper_entity L q.entity e)

  not_open_same : Seat → Inside q.entity → not_open t q ≡ not_open u q
  unfolding not_open
  not_open_same s e = rw (reading_as s e, writing_as s e)

  -- the condition 10 of openr, by the edition
  too_low_same : every (in_edition1 t ∷ entity_below_seat t q ∷ []) ≡ every (in_edition1 u ∷ entity_below_seat u q ∷ [])
  too_low_same = ap (λ n. every (eqb n edition1 ∷ entity_below_seat t q ∷ [])) same.edition

  right_same : (right e : ℕ) → Seat → first_entity L ≤ e → has_right t q.seat right e ≡ has_right u q.seat right e
  right_same right e s = has_right_same L t u same ties ties' q.seat right e (upper_seat L q.seat s)

  not_owned_same : Seat → Inside q.entity → not_owned t q ≡ not_owned u q
  not_owned_same s e = ap not (right_same own q.entity s (upper_entity L q.entity e))

  cannot_open_same : (right : ℕ) → Seat → Inside q.entity → ltb q.entity entity_count ≡ true → entity_dead t q ≡ false → cannot_open t q right ≡ cannot_open u q right
  unfolding cannot_open
  cannot_open_same right s e l live =
      let up = upper_entity L q.entity e in
      rw (right_same right q.entity s up, reaches_same L t u same st su q.seat q.entity (upper_seat L q.seat s) up (ltb-true q.entity entity_count l) (of_not_false _ live))

  cannot_change_in_same : (p : ℕ) → Seat → first_entity L ≤ p → cannot_change_in t q p ≡ cannot_change_in u q p
  unfolding cannot_change_in
  cannot_change_in_same p s up = rw (writing_same L t u same q.seat p (upper_seat L q.seat s) up, right_same execute p s up)

  -- delete and rename: the parent in the record is one, and upper
  cannot_change_same : Seat → Inside q.entity → recorded_parent t q ≡ recorded_parent u q → first_entity L ≤ recorded_parent t q → cannot_change t q ≡ cannot_change u q
  unfolding cannot_change
  cannot_change_same s e parent up =
      ap₂ either (cannot_change_in_same (recorded_parent t q) s up ∙ ap (cannot_change_in u q) parent)
      (ap₂ (λ a b. every (a ∷ b ∷ []))
      (ap (λ (n : Entity). eqb n.shared shared_mark) (entity_same L t u same (recorded_parent t q) up) ∙ ap (is_shared u) parent)
      (not_owned_same s e))

  name_taken_same : (p : ℕ) → first_entity L ≤ p → name_taken t q p ≡ name_taken u q p
  unfolding name_taken every
  name_taken_same p up = some_cong entity_count _ _ (λ f l. go f l (dec_lt f (first_entity L)))
    where
      go : (f : ℕ) → f < entity_count → Dec (f < first_entity L)
          → every (is_child t p f ∷ eqb (entity_at t f).name q.name ∷ []) ≡ every (is_child u p f ∷ eqb (entity_at u f).name q.name ∷ [])
      go f l (yes h) = rw (none_below L t st p f h l up, none_below L u su p f h l up)
      go f l (no h) = rw (child_same L t u same st su p up f l, entity_same L t u same f (omega arith))

  has_children_same : Inside q.entity → has_children t q ≡ has_children u q
  unfolding has_children
  has_children_same e = some_cong entity_count _ _ (child_same L t u same st su q.entity (upper_entity L q.entity e))

  -- ---- the rules
  abbrev Agrees : Rule → Type 0
  Agrees rule =
      every (map (field_in_range q) rule.uses) ≡ true → every (map (field_upper L q) rule.uses) ≡ true → Alike (rule.refusals t q) (rule.refusals u q)

  -- delete and rename, by their last condition: the parent in the record is one, and upper
  change_agrees : (n : ℕ) (a b : Bool) → Seat → Inside q.entity → ltb q.entity entity_count ≡ true
      → (recorded_parent t q ≡ recorded_parent u q → first_entity L ≤ recorded_parent t q → a ≡ b)
      → Alike (5 when seat_dead t q ∷ 6 when is_root q.entity ∷ 7 when entity_dead t q ∷ 13 when cannot_change t q ∷ n when a ∷ [])
      (5 when seat_dead u q ∷ 6 when is_root q.entity ∷ 7 when entity_dead u q ∷ 13 when cannot_change u q ∷ n when b ∷ [])
  change_agrees n a b s e l last =
      seat_dead_same s also refl then (λ inner. entity_dead_same e then (λ live.
      cannot_change_same s e parent (up inner live) also last parent (up inner live) also tt))
    where
      parent : recorded_parent t q ≡ recorded_parent u q
      parent = ap (λ (r : Entity). r.parent) (at_same q.entity e)

      up : is_root q.entity ≡ false → entity_dead t q ≡ false → first_entity L ≤ recorded_parent t q
      up inner live =
          let level = (parent_level t st q.entity (ltb-true q.entity entity_count l) (of_not_false _ live) inner).0 in
          omega (arith, upper_entity L q.entity e)

  -- openr and openw, by the test of levels, that of labels, the right asked for and what is open
  open_agrees : (c d : Bool) (f : Label → Label → Bool) (right : ℕ) (a b : Bool) → Seat → Inside q.entity → ltb q.entity entity_count ≡ true → c ≡ d → a ≡ b
      → Alike
      (5 when seat_dead t q ∷ 7 when entity_dead t q ∷ 10 when c ∷ 11 when not (f (session_at t q.seat).label (entity_at t q.entity).label)
      ∷ 13 when cannot_open t q right ∷ 16 when a ∷ [])
      (5 when seat_dead u q ∷ 7 when entity_dead u q ∷ 10 when d ∷ 11 when not (f (session_at u q.seat).label (entity_at u q.entity).label)
      ∷ 13 when cannot_open u q right ∷ 16 when b ∷ [])
  open_agrees c d f right a b s e l levels already =
      seat_dead_same s also entity_dead_same e then (λ live. levels also labels_same f s e also cannot_open_same right s e l live also already also tt)

  create_agrees : Agrees create
  unfolding create field_upper create_out_of_level
  create_agrees r n =
      let s = every_at _ n 0 in
      let here = at_same q.entity (every_at _ n 1) in
      let parent = at_same q.parent (every_at _ n 3) in
      let up = upper_entity L q.parent (every_at _ n 3) in
      let o = every_at _ n 6 in
      seat_dead_same s
      also ap₂ either (ap (λ (e : Entity). not e.live) parent) (role_dead_same o)
      also ap (λ (e : Entity). e.live) here
      also ap (λ (e : Entity). not (eqb e.kind container)) parent
      also refl
      also ap (λ (e : Entity). not (dominates (label_asked q) e.label)) parent
      also ap not (role_held_same s o)
      also cannot_change_in_same q.parent s up
      also name_taken_same q.parent up
      also tt

  grant_agrees : Agrees grant
  unfolding grant field_upper grant_below
  grant_agrees r n =
      let s = every_at _ n 0 in
      let o = every_at _ n 1 in
      let e = every_at _ n 2 in
      seat_dead_same s
      also ap₂ either (entity_dead_same e) (role_dead_same o)
      also refl
      also not_owned_same s e
      also tt

  share_agrees : Agrees share
  unfolding share field_upper
  share_agrees r n =
      let s = every_at _ n 0 in
      let e = every_at _ n 1 in
      let here = at_same q.entity e in
      seat_dead_same s
      also entity_dead_same e
      also ap (λ (f : Entity). eqb f.kind object) here
      also refl
      also not_owned_same s e
      also ap (λ (f : Entity). eqb f.shared q.shared) here
      also tt

  -- join and unjoin, by what comes after the conditions that they share
  tie_agrees : (last : Tables → List Refusal) → Seat → Held → Junior → Alike (last t) (last u)
      → Alike (5 when seat_dead t q ∷ 7 when either (role_dead t q) (junior_dead t q) ∷ 10 when tie_out_of_level t q ∷ 12 when keeper_not_held t q ∷ last t)
      (5 when seat_dead u q ∷ 7 when either (role_dead u q) (junior_dead u q) ∷ 10 when tie_out_of_level u q ∷ 12 when keeper_not_held u q ∷ last u)
  unfolding tie_out_of_level
  tie_agrees last s o j more = seat_dead_same s also ap₂ either (role_dead_same o) (junior_dead_same j) also refl also keeper_not_held_same s o also more

  join_agrees : Agrees join
  unfolding join field_in_range_in field_upper
  join_agrees r n =
      let o = every_at _ n 1 in
      let j = every_at _ n 2 in
      tie_agrees (λ v. 22 when closes_cycle v q ∷ 16 when tied v q ∷ []) (every_at _ n 0) o j
      (closes_cycle_same j (every_at _ r 1) (every_at _ r 2) also tied_same o j also tt)

  unjoin_agrees : Agrees unjoin
  unfolding join unjoin field_upper
  unjoin_agrees r n =
      let o = every_at _ n 1 in
      let j = every_at _ n 2 in
      tie_agrees (λ v. 16 when not_tied v q ∷ []) (every_at _ n 0) o j (ap not (tied_same o j) also tt)

  -- the rules, in their order
  pub agrees : Agrees (rule_of q)
  unfolding rules login logout take drop openr openw close delete rename revoke list unlist make unmake unknown field_in_range_in field_upper
  agrees =
      each_rule Agrees
      ((λ r n. seat_live_same (every_at _ n 0) also user_too_low_same also tt)  -- login
      and (λ r n. seat_dead_same (every_at _ n 0) also tt)  -- logout
      and (λ r n. let s = every_at _ n 0 in let o = every_at _ n 1 in seat_dead_same s also role_dead_same o also user_unlisted_same s o also role_held_same s o also tt)  -- take
      and (λ r n. let s = every_at _ n 0 in let o = every_at _ n 1 in seat_dead_same s also role_dead_same o also ap not (role_held_same s o) also tt)  -- drop
      and (λ r n. open_agrees _ _ dominates read _ _ (every_at _ n 0) (every_at _ n 1) (every_at _ r 1) too_low_same (reading_as (every_at _ n 0) (every_at _ n 1)))  -- openr
      and (λ r n. open_agrees _ _ same_label write _ _ (every_at _ n 0) (every_at _ n 1) (every_at _ r 1) refl (writing_as (every_at _ n 0) (every_at _ n 1)))  -- openw
      and (λ r n. seat_dead_same (every_at _ n 0) also entity_dead_same (every_at _ n 1) also not_open_same (every_at _ n 0) (every_at _ n 1) also tt)  -- close
      and create_agrees  -- create
      and (λ r n. change_agrees 15 _ _ (every_at _ n 0) (every_at _ n 1) (every_at _ r 1) (λ p up. has_children_same (every_at _ n 1)))  -- delete
      and (λ r n. change_agrees 14 _ _ (every_at _ n 0) (every_at _ n 1) (every_at _ r 1) (λ p up. name_taken_same (recorded_parent t q) up ∙ ap (name_taken u q) p))  -- rename
      and grant_agrees  -- grant
      and grant_agrees  -- revoke
      and (λ r n. let s = every_at _ n 0 in let o = every_at _ n 1 in seat_dead_same s also role_dead_same o also refl also keeper_not_held_same s o also user_listed_same q.user o also tt)  -- list
      and (λ r n. let s = every_at _ n 0 in let o = every_at _ n 1 in seat_dead_same s also role_dead_same o also refl also keeper_not_held_same s o also ap not (user_listed_same q.user o) also tt)  -- unlist
      and (λ r n. seat_dead_same (every_at _ n 0) also role_live_same_lem (every_at _ n 1) also refl also keeper_not_held_same (every_at _ n 0) (every_at _ n 1) also tt)  -- make
      and (λ r n. let s = every_at _ n 0 in let o = every_at _ n 1 in seat_dead_same s also refl also role_dead_same o also refl also keeper_not_held_same s o also role_tied_same o (every_at _ r 1) also tt)  -- unmake
      and share_agrees  -- share
      and join_agrees  -- join
      and unjoin_agrees  -- unjoin
      and tt)
      (λ r n. tt) q
