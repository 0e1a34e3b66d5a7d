-- What equal upper parts tell of two tables.
--     upper_seat .. lower_entity        from a number's level to its place before or after the first upper one
--     Same, same_of, of_same            equal upper parts, as an equation of editions and four of lists
--     upper_rights                      a role's rights on an upper entity, by its upper part
--     session_same .. junior_same       what the records at upper numbers agree on
--     tie_same, below_same              the ties of an upper role, and what is below it: upper too, since ties stay in their level
--     role_for_same, has_right_same       rights on an upper entity, with the role that gives them
--     none_below, child_same            the children of an upper entity
--     reaches_same                      the way to it
-- Assumes nothing.
use Rattle.std.specs.Prelude.{is_some}
use Prim.Native.Nat.{ℕ, zero, suc, ◌-◌, ◌≤◌, ◌<◌}
use Rattle.std.specs.Prelude.{◌≡◌, Bool, not, [], ◌∷◌, map, ◌⊎◌, eqb, drop}
use Rattle.std.proofs.Math.Path.{refl, sym, ap, ap₂}
use Rattle.std.proofs.Common.{◌∙◌, inl, ⊎_elim, add-sub_of_le, arith}
use Rattle.std.proofs.Math.Bool.{true, false}
use Rattle.std.proofs.Math.Decide.{dec_lt}
use Rattle.std.proofs.Math.Dec.{leb}
use borrow.Author.Tests.{leb-true, leb-false, eqb-true}
use Rattle.bitset.specs.Tests.{every, either}
use Rattle.bitset.specs.Tests.Laws.{every_e, every_at, some_cong, both, is_false, of_not_true}
use Rattle.bitset.specs.Sets.{contains}
use Rattle.bitset.specs.Sets.Shift.{has_from, from_has}
use Rattle.guard.specs.Level.{role_count, entity_count, session_level, role_level, entity_level, entities_per_level, is_root}
use Rattle.guard.specs.Tables.{no_session, no_role, no_entity, session_at, role_at, entity_at, holds, is_reading, is_writing, is_junior, is_below, rights_of, rights_on, role_has, role_for, has_right, is_child, execute}
use Rattle.guard.specs.Chain.{climbs, parent_of, reaches}
use Rattle.guard.specs.Sound.{sound}
use Rattle.isolation.specs.Upper.{first_session, first_role, first_entity, upper_session, upper_role, upper}
use Rattle.guard.specs.declared.Session.{Session}
use Rattle.guard.specs.declared.Role.{Role}
use Rattle.guard.specs.declared.Entity.{Entity}
use Rattle.guard.specs.declared.Tables.{Tables}
use Rattle.guard.proofs.Laws.Told.{lowest_cong}
use Rattle.guard.proofs.Laws.Below.{Below, direct, through, below_e, below_i}
use Rattle.guard.proofs.Laws.Sound.Facts.{TiesOk}
use Rattle.guard.proofs.Laws.Sound.{formed_e, parent_level}
use Rattle.isolation.proofs.OneRequest.Lists.{map_whole, seen, seen_at}

-- ---- upper and lower numbers
module _ (L n : ℕ) where
  pub upper_seat : leb L (session_level n) ≡ true → first_session L ≤ n
  upper_seat h = omega (arith, leb-true L (session_level n) h)

  pub lower_seat : leb L (session_level n) ≡ false → n < first_session L
  lower_seat h = omega (arith, leb-false L (session_level n) h)

  pub upper_role_lem : leb L (role_level n) ≡ true → first_role L ≤ n
  upper_role_lem h = omega (arith, leb-true L (role_level n) h)

  pub lower_role : leb L (role_level n) ≡ false → n < first_role L
  lower_role h = omega (arith, leb-false L (role_level n) h)

  pub upper_entity : leb L (entity_level n) ≡ true → first_entity L ≤ n
  upper_entity h = omega (arith, leb-true L (entity_level n) h)

  pub lower_entity : leb L (entity_level n) ≡ false → n < first_entity L
  lower_entity h = omega (arith, leb-false L (entity_level n) h)

-- ---- equal upper parts
pub record Same (L : ℕ) (t u : Tables) : Type 0 where
  pub users : t.users ≡ u.users
  pub sessions : seen (upper_session L) (first_session L) t.sessions ≡ seen (upper_session L) (first_session L) u.sessions
  pub roles : seen (upper_role L) (first_role L) t.roles ≡ seen (upper_role L) (first_role L) u.roles
  pub entities : seen (λ e. e) (first_entity L) t.entities ≡ seen (λ e. e) (first_entity L) u.entities
  pub edition : t.edition ≡ u.edition

pub of_same : (L : ℕ) (t u : Tables) → Same L t u → upper L t ≡ upper L u
unfolding upper
of_same L t u e =
    let whole : drop (first_entity L) t.entities ≡ drop (first_entity L) u.entities = simp map_whole at e.entities in
    λ i. record { users = e.users i; sessions = e.sessions i; roles = e.roles i; entities = whole i; edition = e.edition i }

pub same_of : (L : ℕ) (t u : Tables) → upper L t ≡ upper L u → Same L t u
unfolding upper
same_of L t u e =
    record {
      users = ap (λ (v : Tables). v.users) e;
      sessions = ap (λ (v : Tables). v.sessions) e;
      roles = ap (λ (v : Tables). v.roles) e;
      entities = ap (λ (v : Tables). map (λ e. e) v.entities) e;
      edition = ap (λ (v : Tables). v.edition) e;
    }

same_sym : (L : ℕ) (t u : Tables) → Same L t u → Same L u t
same_sym L t u same = same_of L u t (sym (of_same L t u same))

-- a role's rights on an upper entity, read off the role's upper part
pub upper_rights : (L : ℕ) (p : Role) (e : ℕ) → first_entity L ≤ e → rights_of (upper_role L p) (e - first_entity L) ≡ rights_of p e
unfolding rights_of upper_role
upper_rights L p e h = simp (has_from, add-sub_of_le h)

-- chains that agree at every number that they pass
climbs_cong : (up up' : ℕ → ℕ) (p p' : ℕ → Bool) (Within : ℕ → Type 0)
    → ((e : ℕ) → Within e → is_root e ≡ false → (up e ≡ up' e) × Within (up e)) → ((e : ℕ) → Within e → p e ≡ p' e)
    → (n e : ℕ) → Within e → climbs up p n e ≡ climbs up' p' n e
unfolding climbs either
climbs_cong up up' p p' Within step same zero e w = refl
climbs_cong up up' p p' Within step same (suc n) e w = go (is_root e) refl (climbs_cong up up' p p' Within step same n)
  where
    go : (b : Bool) → is_root e ≡ b → ((e : ℕ) → Within e → climbs up p n e ≡ climbs up' p' n e)
        → either b (every (p (up e) ∷ climbs up p n (up e) ∷ [])) ≡ either b (every (p' (up' e) ∷ climbs up' p' n (up' e) ∷ []))
    go true root more = refl
    go false inner more =
        let (same_up, w') = step e w inner in
        rw (← same_up, same (up e) w', more (up e) w')

-- ---- the records at upper numbers
module _ (L : ℕ) (t u : Tables) (same : Same L t u) where
  pub session_same : (x : ℕ) → first_session L ≤ x → upper_session L (session_at t x) ≡ upper_session L (session_at u x)
  session_same = seen_at (upper_session L) (first_session L) t.sessions u.sessions no_session same.sessions

  pub role_same : (r : ℕ) → first_role L ≤ r → upper_role L (role_at t r) ≡ upper_role L (role_at u r)
  role_same = seen_at (upper_role L) (first_role L) t.roles u.roles no_role same.roles

  pub entity_same : (e : ℕ) → first_entity L ≤ e → entity_at t e ≡ entity_at u e
  entity_same = seen_at (λ e. e) (first_entity L) t.entities u.entities no_entity same.entities

  -- ---- of upper sessions
  pub live_same : (x : ℕ) → first_session L ≤ x → (session_at t x).live ≡ (session_at u x).live
  unfolding upper_session
  live_same x hx = ap (λ (s : Session). s.live) (session_same x hx)

  pub user_same : (x : ℕ) → first_session L ≤ x → (session_at t x).user ≡ (session_at u x).user
  unfolding upper_session
  user_same x hx = ap (λ (s : Session). s.user) (session_same x hx)

  pub label_same : (x : ℕ) → first_session L ≤ x → (session_at t x).label ≡ (session_at u x).label
  unfolding upper_session
  label_same x hx = ap (λ (s : Session). s.label) (session_same x hx)

  pub holds_same : (x r : ℕ) → first_session L ≤ x → first_role L ≤ r → holds t x r ≡ holds u x r
  unfolding upper_session
  holds_same x r hx = from_has (first_role L) _ _ (ap (λ (s : Session). s.roles) (session_same x hx)) r

  pub reading_same : (x e : ℕ) → first_session L ≤ x → first_entity L ≤ e → is_reading t x e ≡ is_reading u x e
  unfolding upper_session
  reading_same x e hx = from_has (first_entity L) _ _ (ap (λ (s : Session). s.reading) (session_same x hx)) e

  pub writing_same : (x e : ℕ) → first_session L ≤ x → first_entity L ≤ e → is_writing t x e ≡ is_writing u x e
  unfolding upper_session
  writing_same x e hx = from_has (first_entity L) _ _ (ap (λ (s : Session). s.writing) (session_same x hx)) e

  -- ---- of upper roles
  pub live_same_at : (r : ℕ) → first_role L ≤ r → (role_at t r).live ≡ (role_at u r).live
  unfolding upper_role
  live_same_at r hr = ap (λ (p : Role). p.live) (role_same r hr)

  pub listed_same : (r : ℕ) → first_role L ≤ r → (role_at t r).users ≡ (role_at u r).users
  unfolding upper_role
  listed_same r hr = ap (λ (p : Role). p.users) (role_same r hr)

  pub rights_on_same : (r e : ℕ) → first_role L ≤ r → first_entity L ≤ e → rights_on t r e ≡ rights_on u r e
  rights_on_same r e hr he =
      sym (upper_rights L _ e he) ∙ ap (λ (p : Role). rights_of p (e - first_entity L)) (role_same r hr) ∙ upper_rights L _ e he

  -- a tie among upper roles
  pub junior_same : (r j : ℕ) → first_role L ≤ r → first_role L ≤ j → is_junior t r j ≡ is_junior u r j
  unfolding upper_role
  junior_same r j hr = from_has (first_role L) _ _ (ap (λ (p : Role). p.juniors) (role_same r hr)) j

  -- a tie with an upper role is one among upper roles, so that both have it
  tie_shared : TiesOk t.roles → (r j : ℕ) → r < role_count → j < role_count → (first_role L ≤ r) ⊎ (first_role L ≤ j)
      → is_junior t r j ≡ true → (is_junior u r j ≡ true) × (first_role L ≤ j)
  tie_shared ok r j l k one tie =
      let level = eqb-true (role_level j) (role_level r) (every_at _ (ok.joined r j l k tie) 2) in
      let hr : first_role L ≤ r = ⊎_elim (λ up. up) (λ up. omega arith) one in
      let hj : first_role L ≤ j = omega arith in
      (sym (junior_same r j hr hj) ∙ tie, hj)

  -- .. and so is, tie by tie, what is below an upper role
  below_shared : TiesOk t.roles → (a b : ℕ) → a < role_count → b < role_count → first_role L ≤ a
      → Below (is_junior t) a b → Below (is_junior u) a b × (first_role L ≤ b)
  below_shared ok a b l k up (direct h) = let (tie, last) = tie_shared ok a b l k (inl up) h in (direct tie, last)
  below_shared ok a b l k up (through m s h f) =
      let (tie, over) = tie_shared ok a m l s (inl up) h in
      let (rest, last) = below_shared ok m b s k over f in
      (through m s tie rest, last)

-- ---- where ties stay in their level, as in sound tables
module _ (L : ℕ) (t u : Tables) (same : Same L t u) (ties : TiesOk t.roles) (ties' : TiesOk u.roles) where
  pub tie_same : (r j : ℕ) → r < role_count → j < role_count → (first_role L ≤ r) ⊎ (first_role L ≤ j) → is_junior t r j ≡ is_junior u r j
  tie_same r j l k one =
      both _ _ (λ h. (tie_shared L t u same ties r j l k one h).0) (λ h. (tie_shared L u t (same_sym L t u same) ties' r j l k one h).0)

  pub below_same : (a b : ℕ) → a < role_count → b < role_count → first_role L ≤ a → is_below t a b ≡ is_below u a b
  below_same a b l k up =
      both _ _ (λ h. below_i _ a b l (below_shared L t u same ties a b l k up (below_e _ a b h)).0)
      (λ h. below_i _ a b l (below_shared L u t (same_sym L t u same) ties' a b l k up (below_e _ a b h)).0)

  role_has_same : (r right e : ℕ) → r < role_count → first_role L ≤ r → first_entity L ≤ e → role_has t r right e ≡ role_has u r right e
  unfolding role_has every
  role_has_same r right e l hr he =
      ap₂ either (gives r hr) (some_cong role_count _ _ (λ j k. rw (← below_same r j l k hr) (go j k (is_below t r j) refl)))
    where
      gives : (j : ℕ) → first_role L ≤ j → contains (rights_on t j e) right ≡ contains (rights_on u j e) right
      gives j hj = ap (λ (n : ℕ). contains n right) (rights_on_same L t u same j e hj he)

      go : (j : ℕ) → j < role_count → (b : Bool) → is_below t r j ≡ b
          → every (b ∷ contains (rights_on t j e) right ∷ []) ≡ every (b ∷ contains (rights_on u j e) right ∷ [])
      go j k true h = rw (gives j (below_shared L t u same ties r j l k hr (below_e _ r j h)).1)
      go j k false h = refl

  -- Roles below e's level are cut off by the level test, the others are upper.
  pub role_for_same : (x right e : ℕ) → first_session L ≤ x → first_entity L ≤ e → role_for t x right e ≡ role_for u x right e
  unfolding role_for every
  role_for_same x right e hx he = lowest_cong role_count _ _ (λ r k. go r k (leb (entity_level e) (role_level r)) refl)
    where
      go : (r : ℕ) → r < role_count → (l : Bool) → leb (entity_level e) (role_level r) ≡ l
          → every (l ∷ holds t x r ∷ role_has t r right e ∷ []) ≡ every (l ∷ holds u x r ∷ role_has u r right e ∷ [])
      go r k true h =
          let up : first_role L ≤ r = omega (arith, leb-true (entity_level e) (role_level r) h) in
          rw (holds_same L t u same x r hx up, role_has_same r right e k up he)
      go r k false h = refl

  pub has_right_same : (x right e : ℕ) → first_session L ≤ x → first_entity L ≤ e → has_right t x right e ≡ has_right u x right e
  unfolding has_right
  has_right_same x right e hx he = ap is_some (role_for_same x right e hx he)

-- ---- of sound tables: parents stay in their level
-- no lower entity is the child of an upper one
pub none_below : (L : ℕ) (v : Tables) → sound v ≡ true → (p f : ℕ) → f < first_entity L → f < entity_count → first_entity L ≤ p → is_child v p f ≡ false
unfolding is_child
none_below L v sv p f hf l hp = is_false _ (λ h. apart (every_e ((entity_at v f).live ∷ not (is_root f) ∷ eqb (entity_at v f).parent p ∷ []) h))
  where
    apart : ((entity_at v f).live ≡ true) × ((not (is_root f) ≡ true) × ((eqb (entity_at v f).parent p ≡ true) × Unit {0})) → ⊥
    apart (live, (inner, (child, _))) =
        let same_level = (parent_level v sv f l live (of_not_true (is_root f) inner)).0 in
        let is_p = eqb-true (entity_at v f).parent p child in
        omega arith

module _ (L : ℕ) (t u : Tables) (same : Same L t u) (st : sound t ≡ true) (su : sound u ≡ true) where
  pub child_same : (p : ℕ) → first_entity L ≤ p → (f : ℕ) → f < entity_count → is_child t p f ≡ is_child u p f
  unfolding is_child
  child_same p hp f l = go (dec_lt f (first_entity L))
    where
      go : Dec (f < first_entity L) → is_child t p f ≡ is_child u p f
      go (yes h) = none_below L t st p f h l hp ∙ sym (none_below L u su p f h l hp)
      go (no h) = rw (entity_same L t u same f (omega arith))

  pub reaches_same : (x e : ℕ) → first_session L ≤ x → first_entity L ≤ e → e < entity_count → (entity_at t e).live ≡ true → reaches t x e ≡ reaches u x e
  unfolding reaches
  reaches_same x e hx he l v =
      climbs_cong (parent_of t) (parent_of u) (has_right t x execute) (has_right u x execute) Within up
      (λ c (hc, _, _). has_right_same L t u same (formed_e t st).ties (formed_e u su).ties x execute c hx hc) entities_per_level e (he, l, v)
    where
      Within : ℕ → Type 0
      Within c = (first_entity L ≤ c) × (c < entity_count) × ((entity_at t c).live ≡ true)

      up : (c : ℕ) → Within c → is_root c ≡ false → (parent_of t c ≡ parent_of u c) × Within (parent_of t c)
      up c (hc, lc, vc) inner =
          let (level, live) = parent_level t st c lc vc inner in
          (ap (λ (r : Entity). r.parent) (entity_same L t u same c hc), (omega arith, omega arith, live))
