-- Keep: a request that is done, and whose seat or something that it names is lower, leaves the upper part alone.
--     keeps           each rule: what it changes is lower, since the rule's conditions put it below what is named; opens that end
--                     after it are of lower entities or lower seats (Ending)
-- Assumes nothing.
use Rattle.std.specs.Prelude.{ℕ, ◌≤◌, ◌<◌, ◌≡◌, Bool, ltb}
use Rattle.std.proofs.Math.Path.{refl}
use Rattle.std.proofs.Math.Bool.{true, false}
use mathlib.Core.List.{List, [], ◌∷◌, map}
use Rattle.std.proofs.Math.Decide.{dec_lt}
use Rattle.std.proofs.Common.{arith}
use Rattle.std.proofs.Math.Dec.{leb}
use borrow.Author.Tests.{le-leb, ltb-true, ltb-false, eqb-true}
use Rattle.bitset.specs.Tests.{every}
use Rattle.bitset.specs.Tests.Laws.{Each, every_i, every_at, either_no_l, either_no_r, of_not_false, is_false, clash}
use Rattle.guard.specs.Level.{session_count, entity_count, session_level, role_level, entity_level, is_root}
use Rattle.guard.specs.Sound.{sound}
use Rattle.guard.specs.Edits.{at_session, at_role, at_entity, each_session, each_role, drop_role, close_both, add_rights, remove_rights, clear_rights, set_rights}
use Rattle.guard.specs.Conditions.{entity_dead, create_out_of_level, grant_below, cannot_change_in, cannot_change, seat_below_role, tie_out_of_level, recorded_parent}
use Rattle.guard.specs.Requests.{Rule, field_in_range_in, login, logout, take, drop, openr, openw, close, create, delete, rename, grant, revoke, list, unlist, make, unmake, share, join, unjoin, unknown, rules, rule_of}
use Rattle.isolation.specs.Upper.{first_role, first_entity, upper_session, field_upper}
use Rattle.guard.specs.declared.Session.{Session}
use Rattle.guard.specs.declared.Role.{Role}
use Rattle.guard.specs.declared.Entity.{Entity}
use Rattle.guard.specs.declared.Tables.{Tables}
use Rattle.guard.specs.declared.Request.{Request}
use Rattle.guard.proofs.Laws.Refusals.{unmet}
use Rattle.guard.proofs.Laws.Step.{Done, each_rule}
use Rattle.guard.proofs.Laws.Sound.{writing_level, parent_level}
use Rattle.isolation.proofs.OneRequest.Lists.{Hidden}
use Rattle.isolation.proofs.OneRequest.Views.{Same, lower_seat, lower_role, lower_entity}
use Rattle.isolation.proofs.OneRequest.Edits.{session_table, role_table, entity_table, same_refl, same_trans, row_low, row_hidden, rows_hidden, taking, dropping, opening_r, opening_w, closing, setting}
use Rattle.isolation.proofs.OneRequest.Ending.{ending_hidden}
use Rattle.isolation.proofs.OneRequest.{◌and◌}

-- not every test is met, and the first is
rest_false : (l : List Bool) → every (true ∷ l) ≡ false → every l ≡ false
unfolding every
rest_false l h = h

one_false : (b : Bool) → every (b ∷ []) ≡ false → b ≡ false
one_false b h = is_false b (λ e. clash _ (every_i (b ∷ []) (e, tt)) h)

-- n is lower, if from its being upper all that is named would be
lower_if : (n k : ℕ) (l : List Bool) → every l ≡ false → (k ≤ n → Each l) → n < k
lower_if n k l low up = go (dec_lt n k)
  where
    go : Dec (n < k) → n < k
    go (yes h) = h
    go (no h) = absurd (clash (every l) (every_i l (up (omega arith))) low)

module _ (L : ℕ) (t : Tables) (q : Request) where
  seat_up : L ≤ session_level q.seat → leb L (session_level q.seat) ≡ true
  seat_up = le-leb L (session_level q.seat)

  role_up : L ≤ role_level q.role → leb L (role_level q.role) ≡ true
  role_up = le-leb L (role_level q.role)

  entity_up : (e : ℕ) → L ≤ entity_level e → leb L (entity_level e) ≡ true
  entity_up e = le-leb L (entity_level e)

  -- ---- the acting seat is changed: it is lower, or what it gains or loses is
  at_seat : (f : Session → Session) (rest : List Bool) → every (leb L (session_level q.seat) ∷ rest) ≡ false
      → (every rest ≡ false → Hidden (upper_session L) f) → Same L (at_session q.seat f t) t
  unfolding at_session
  at_seat f rest low hidden = go (leb L (session_level q.seat)) refl low
    where
      go : (b : Bool) → leb L (session_level q.seat) ≡ b → every (b ∷ rest) ≡ false → Same L (at_session q.seat f t) t
      go true e low = row_hidden L (session_table L) f q.seat t (hidden (rest_false rest low))
      go false e low = row_low L (session_table L) f q.seat t (lower_seat L q.seat e)

  seat_alone : (f : Session → Session) (rest : List Bool) → Each rest → every (leb L (session_level q.seat) ∷ rest) ≡ false → Same L (at_session q.seat f t) t
  seat_alone f rest others low = at_seat f rest low (λ h. absurd (clash (every rest) (every_i rest others) h))

  -- ---- an entity, or rights on it: the entity is lower
  -- the parent is open for writing, so not above the seat
  parent_not_above : (p : ℕ) → sound t ≡ true → ltb q.seat session_count ≡ true → p < entity_count → cannot_change_in t q p ≡ false → entity_level p ≤ session_level q.seat
  unfolding cannot_change_in
  parent_not_above p st hs hp h = writing_level t st q.seat p (ltb-true q.seat session_count hs) hp (of_not_false _ (either_no_l _ _ h))

  at_entity_lem : (f : Entity → Entity) → q.entity < first_entity L → Same L (at_entity q.entity f t) t
  unfolding at_entity
  at_entity_lem f lower = row_low L (entity_table L) f q.entity t lower

  at_rights : (f : ℕ → ℕ) (v : Tables) → q.entity < first_entity L → Same L (at_role q.role (set_rights q.entity f) v) v
  unfolding at_role
  at_rights f v lower = row_hidden L (role_table L) (set_rights q.entity f) q.role v ((setting L q.entity f).0 lower)

  -- create: the entity is of the parent's level, and not above the role
  create_lower : Done create t q → every (map (field_upper L q) create.uses) ≡ false → q.entity < first_entity L
  unfolding create field_in_range_in field_upper create_out_of_level
  create_lower d low =
      let met = unmet (create.refusals t q) refl d.none in
      let parent_in_lem = ltb-true q.parent entity_count (every_at _ d.ranges 3) in
      let level = eqb-true (entity_level q.entity) (entity_level q.parent) (of_not_false _ (either_no_l _ _ (met 10))) in
      let role_over = ltb-false (role_level q.role) (entity_level q.entity) (either_no_r _ _ (met 10)) in
      let seat_over = parent_not_above q.parent d.is_sound (every_at _ d.ranges 0) parent_in_lem (met 13) in
      lower_if q.entity (first_entity L) _ low
      (λ up. seat_up (omega arith) and entity_up q.entity (omega arith) and refl and entity_up q.parent (omega arith) and refl and refl and role_up (omega arith) and tt)

  -- delete and rename: the entity is of its parent's level
  change_lower : (rest : List Bool) → Each rest → every (leb L (session_level q.seat) ∷ leb L (entity_level q.entity) ∷ rest) ≡ false
      → sound t ≡ true → ltb q.seat session_count ≡ true → ltb q.entity entity_count ≡ true
      → is_root q.entity ≡ false → entity_dead t q ≡ false → cannot_change t q ≡ false → q.entity < first_entity L
  unfolding cannot_change
  change_lower rest others low st hs he inner live change =
      let entity_in_lem = ltb-true q.entity entity_count he in
      let level = (parent_level t st q.entity entity_in_lem (of_not_false _ live) inner).0 in
      let seat_over = parent_not_above (recorded_parent t q) st hs (omega arith) (either_no_l _ _ change) in
      lower_if q.entity (first_entity L) _ low (λ up. seat_up (omega arith) and entity_up q.entity (omega arith) and others)

  delete_lower : Done delete t q → every (map (field_upper L q) delete.uses) ≡ false → q.entity < first_entity L
  unfolding delete field_in_range_in field_upper
  delete_lower d low =
      let met = unmet (delete.refusals t q) refl d.none in
      change_lower [] tt low d.is_sound (every_at _ d.ranges 0) (every_at _ d.ranges 1) (met 6) (met 7) (met 13)

  rename_lower : Done rename t q → every (map (field_upper L q) rename.uses) ≡ false → q.entity < first_entity L
  unfolding rename field_in_range_in field_upper
  rename_lower d low =
      let met = unmet (rename.refusals t q) refl d.none in
      change_lower (true ∷ []) (refl, tt) low d.is_sound (every_at _ d.ranges 0) (every_at _ d.ranges 1) (met 6) (met 7) (met 13)

  -- grant and revoke: neither the seat nor the role is below the entity
  grant_lower : grant_below t q ≡ false → every (leb L (session_level q.seat) ∷ leb L (role_level q.role) ∷ leb L (entity_level q.entity) ∷ true ∷ []) ≡ false
      → q.entity < first_entity L
  unfolding grant_below
  grant_lower integrity low =
      let seat_over = ltb-false (session_level q.seat) (entity_level q.entity) (either_no_l _ _ integrity) in
      let role_over = ltb-false (role_level q.role) (entity_level q.entity) (either_no_r _ _ integrity) in
      lower_if q.entity (first_entity L) _ low
      (λ up. seat_up (omega arith) and role_up (omega arith) and entity_up q.entity (omega arith) and refl and tt)

  -- share: the seat is not below the entity
  share_lower : Done share t q → every (map (field_upper L q) share.uses) ≡ false → q.entity < first_entity L
  unfolding share field_upper
  share_lower d low =
      let seat_over = ltb-false (session_level q.seat) (entity_level q.entity) (unmet (share.refusals t q) refl d.none 10) in
      lower_if q.entity (first_entity L) _ low (λ up. seat_up (omega arith) and entity_up q.entity (omega arith) and refl and tt)

  -- ---- a role: the seat is not below it, so the role is lower
  role_lower : (rest : List Bool) → (L ≤ role_level q.role → Each rest) → seat_below_role t q ≡ false
      → every (leb L (session_level q.seat) ∷ leb L (role_level q.role) ∷ rest) ≡ false → q.role < first_role L
  role_lower rest others integrity low =
      let seat_over = ltb-false (session_level q.seat) (role_level q.role) integrity in
      lower_if q.role (first_role L) _ low (λ up. seat_up (omega arith) and role_up (omega arith) and others (omega arith))

  -- join and unjoin: the junior is of the senior's level
  tie_lower : tie_out_of_level t q ≡ false → every (leb L (session_level q.seat) ∷ leb L (role_level q.role) ∷ leb L (role_level q.junior) ∷ []) ≡ false
      → q.role < first_role L
  unfolding tie_out_of_level
  tie_lower integrity =
      let level = eqb-true (role_level q.junior) (role_level q.role) (of_not_false _ (either_no_r _ _ integrity)) in
      role_lower (leb L (role_level q.junior) ∷ []) (λ up. le-leb L (role_level q.junior) (omega arith) and tt) (either_no_l _ _ integrity)

  at_role_lem : (f : Role → Role) → q.role < first_role L → Same L (at_role q.role f t) t
  unfolding at_role
  at_role_lem f lower = row_low L (role_table L) f q.role t lower

  -- ---- the rules, in their order
  abbrev Keeps : Rule → Type 0
  Keeps rule = Done rule t q → sound (rule.effect q t) ≡ true → every (map (field_upper L q) rule.uses) ≡ false → Same L (rule.effect q t) t

  pub keeps : Keeps (rule_of q)
  unfolding rules login logout take drop openr openw close create delete rename grant revoke list unlist make unmake share join unjoin unknown field_upper each_session each_role add_rights remove_rights clear_rights
  keeps =
      each_rule Keeps
      ((λ d s. seat_alone _ (true ∷ true ∷ []) (refl, (refl, tt)))  -- login
      and (λ d s. seat_alone _ [] tt)  -- logout
      and (λ d s low. at_seat _ _ low (λ h. (taking L q.role).0 (lower_role L q.role (one_false _ h))))  -- take
      and (λ d s low. ending_hidden L t _ d.is_sound s (at_seat _ _ low (λ h. (dropping L q.role).0 (lower_role L q.role (one_false _ h)))))  -- drop
      and (λ d s low. at_seat _ _ low (λ h. (opening_r L q.entity).0 (lower_entity L q.entity (one_false _ h))))  -- openr
      and (λ d s low. at_seat _ _ low (λ h. (opening_w L q.entity).0 (lower_entity L q.entity (one_false _ h))))  -- openw
      and (λ d s low. at_seat _ _ low (λ h. (closing L q.entity).0 (lower_entity L q.entity (one_false _ h))))  -- close
      and create_keeps  -- create
      and delete_keeps  -- delete
      and (λ d s low. at_entity_lem _ (rename_lower d low))  -- rename
      and (λ d s low. at_rights _ t (grant_lower (unmet (grant.refusals t q) refl d.none 10) low))  -- grant
      and (λ d s low. ending_hidden L t _ d.is_sound s (at_rights _ t (grant_lower (unmet (revoke.refusals t q) refl d.none 10) low)))  -- revoke
      and (λ d s low. at_role_lem _ (role_lower (true ∷ []) (λ up. (refl, tt)) (unmet (list.refusals t q) refl d.none 10) low))  -- list
      and (λ d s low. at_role_lem _ (role_lower (true ∷ []) (λ up. (refl, tt)) (unmet (unlist.refusals t q) refl d.none 10) low))  -- unlist
      and (λ d s low. at_role_lem _ (role_lower [] (λ up. tt) (unmet (make.refusals t q) refl d.none 10) low))  -- make
      and unmake_keeps  -- unmake
      and (λ d s low. at_entity_lem _ (share_lower d low))  -- share
      and (λ d s low. at_role_lem _ (tie_lower (unmet (join.refusals t q) refl d.none 10) low))  -- join
      and (λ d s low. ending_hidden L t _ d.is_sound s (at_role_lem _ (tie_lower (unmet (unjoin.refusals t q) refl d.none 10) low)))  -- unjoin
      and tt)
      (λ d s low. same_refl L t) q
    where
      create_keeps : Keeps create
      create_keeps d s low = same_trans L _ _ _ (at_rights _ _ (create_lower d low)) (at_entity_lem _ (create_lower d low))

      delete_keeps : Keeps delete
      delete_keeps d s low =
          let lower = delete_lower d low in
          same_trans L _ _ _ (rows_hidden L (session_table L) (close_both q.entity) _ ((closing L q.entity).0 lower))
          (same_trans L _ _ _ (rows_hidden L (role_table L) (clear_rights q.entity) _ ((setting L q.entity _).0 lower)) (at_entity_lem _ lower))

      unmake_keeps : Keeps unmake
      unmake_keeps d s low =
          let lower = role_lower [] (λ up. tt) (unmet (unmake.refusals t q) refl d.none 10) low in
          ending_hidden L t _ d.is_sound s
          (same_trans L _ _ _ (rows_hidden L (session_table L) (drop_role q.role) _ ((dropping L q.role).0 lower)) (at_role_lem _ lower))
