-- What the isolation rule speaks of and what it shuts out, for level 1, on concrete tables and logs, by computing.
--     lower_logs_differ, lower_parts_differ      logs that differ below in kind, number and place, and leave different lower parts
--     unused_differ                              upper requests that differ in a field that they do not use ask the same
--     named_lower                                an upper request that names something lower, answered 12 in one log and 7 in the other
--     reading_down, lower_opens_differ           edition 2: an upper session reads down in one log and is refused it in the other; its
--                                                lower opens then differ, the upper parts do not
--     lower_roles_differ                         edition 2: a read down that two logs allow by different roles
--     edition_counts, ties_count                 without the edition, or the ties, in the upper part the rule would be false
--     guard_isolates                             the rule for the step by any rules: guard's isolate ..
--     openw_fails .. join_fails                  .. and five misreadings do not
-- Assumes nothing.
use Rattle.std.specs.Prelude.{Some, None}
use Rattle.std.specs.Prelude.{◌≡◌, refl, Bool, true, false, List, [], ◌∷◌, eqb, get_or}
use Rattle.std.proofs.Common.{sym, ap, true≢false, lit≤}
use Rattle.bitset.specs.Sets.{has, from}
use Rattle.guard.specs.Tables.{no_session, no_role, no_entity}
use Rattle.guard.specs.Sound.{sound}
use Rattle.worked.proofs.Morning.{morning_users}
use Rattle.guard.proofs.Laws.Edition.{with_edition}
use Rattle.guard.specs.Edits.{each_role, tying}
use Rattle.guard.specs.Requests.{Rule, rule_of}
use Rattle.guard.specs.Step.{in_ranges_in, answer_in, next_in, role_told_in, answers, roles_told, run, run_in}
use Rattle.guard.specs.SameRequest.{same_field, same_request}
use Rattle.isolation.specs.Upper.{upper_session, upper_role, upper, is_upper, field_upper, names_upper, upper_requests, upper_answers}
use Rattle.guard.specs.declared.Tables.{Tables}
use Rattle.guard.specs.declared.Request.{Request}
use Rattle.guard.proofs.Compute.{computing}
use Rattle.isolation.specs.Log.{run_log}
use Rattle.isolation.proofs.OneRequest.Rule.{isolated}
use Rattle.isolation.specs.Teeth.{start_in, start, start_2, start_tied, ask, make_1, openw_16, grant_16, delete_17, share_16, join_5_4, login_4, take_4, take_1, log_a, log_b, openr_0, log_c, log_d, log_f, log_g, log_e, log_h, number_by, answer_by, next_by, Isolates, instead, misread, openw_without_10, grant_without_10, delete_unopened, share_without_10, join_from_below}

pub start_sound : sound start ≡ true
unfolding computing morning_users start_in
start_sound = refl

pub start_2_sound : sound start_2 ≡ true
unfolding computing morning_users start_in
start_2_sound = refl

pub start_tied_sound : sound start_tied ≡ true
unfolding computing morning_users start_in start_tied
start_tied_sound = refl

pub lower_logs_differ : (upper_requests 1 log_a ≡ upper_requests 1 log_b) × (upper 1 (run start log_a) ≡ upper 1 (run start log_b))
    × (answers start log_a ≡ 0 ∷ 0 ∷ 0 ∷ 0 ∷ 0 ∷ []) × (answers start log_b ≡ 0 ∷ 5 ∷ 0 ∷ 0 ∷ 0 ∷ [])
unfolding computing morning_users start_in run_in upper upper_session upper_role from is_upper upper_requests
lower_logs_differ = (refl, refl, refl, refl)

-- .. and leaves different lower parts: seat 0 is still signed in after the first
pub lower_parts_differ : upper 0 (run start log_a) ≡ upper 0 (run start log_b) → ⊥
unfolding computing morning_users start_in run_in upper upper_session upper_role from
lower_parts_differ e = true≢false (ap (λ (v : Tables). (get_or v.sessions 0 no_session).live) e)

-- ---- two logouts of the upper seat 4 that differ in the role, which logout does not use, ask the same; two takes do not
pub unused_differ : (same_request (ask 1 4 0 0 0) (ask 1 4 9 0 0) ≡ true) × (same_request take_4 take_1 ≡ false)
unfolding computing same_field same_request
unused_differ = (refl, refl)

-- ---- an upper request that names the lower role 1: not listed in the one log, where it was made, not live in the other
pub named_lower : (upper_requests 1 (make_1 ∷ login_4 ∷ take_1 ∷ []) ≡ upper_requests 1 (login_4 ∷ take_1 ∷ []))
    × (answers start (make_1 ∷ login_4 ∷ take_1 ∷ []) ≡ 0 ∷ 0 ∷ 12 ∷ []) × (answers start (login_4 ∷ take_1 ∷ []) ≡ 0 ∷ 7 ∷ [])
    × (names_upper 1 take_1 ≡ false)
unfolding computing morning_users start_in is_upper upper_requests field_upper names_upper
named_lower = (refl, refl, refl, refl)

pub reading_down : (upper_requests 1 log_c ≡ upper_requests 1 log_d) × (upper 1 (run start_2 log_c) ≡ upper 1 (run start_2 log_d))
    × (answers start_2 log_c ≡ 0 ∷ 0 ∷ 0 ∷ []) × (answers start_2 log_d ≡ 0 ∷ 0 ∷ 0 ∷ 13 ∷ []) × (answers start log_c ≡ 0 ∷ 0 ∷ 10 ∷ [])
unfolding computing morning_users start_in run_in upper upper_session upper_role from is_upper upper_requests
reading_down = (refl, refl, refl, refl, refl)

-- the lower parts are different: what seat 4 has open for reading
pub lower_opens_differ : upper 0 (run start_2 log_c) ≡ upper 0 (run start_2 log_d) → ⊥
unfolding computing morning_users start_in run_in upper upper_session upper_role from
lower_opens_differ e = true≢false (ap (λ (v : Tables). has (get_or v.sessions 4 no_session).reading 0) e)

pub lower_roles_differ : (upper_requests 1 log_f ≡ upper_requests 1 log_g) × (upper 1 (run start_2 log_f) ≡ upper 1 (run start_2 log_g))
    × (roles_told start_2 log_f ≡ None ∷ None ∷ None ∷ Some 0 ∷ []) × (roles_told start_2 log_g ≡ None ∷ None ∷ None ∷ None ∷ None ∷ Some 4 ∷ [])
    × (names_upper 1 openr_0 ≡ false)
unfolding computing morning_users start_in run_in upper upper_session upper_role from is_upper upper_requests field_upper names_upper
lower_roles_differ = (refl, refl, refl, refl, refl)

pub edition_counts : (with_edition 0 (upper 1 start) ≡ with_edition 0 (upper 1 start_2))
    × (upper_answers 1 start log_e ≡ (0, None) ∷ (0, None) ∷ (10, None) ∷ []) × (upper_answers 1 start_2 log_e ≡ (0, None) ∷ (0, None) ∷ (0, Some 4) ∷ [])
unfolding computing morning_users start_in upper upper_session upper_role from is_upper field_upper names_upper upper_answers
edition_counts = (refl, refl, refl)

pub ties_count : (each_role (tying 0) (upper 1 start_tied) ≡ each_role (tying 0) (upper 1 start))
    × (upper_answers 1 start_tied log_h ≡ (0, None) ∷ (0, None) ∷ (0, Some 5) ∷ []) × (upper_answers 1 start log_h ≡ (0, None) ∷ (0, None) ∷ (13, None) ∷ [])
unfolding computing morning_users start_in start_tied upper upper_session upper_role from is_upper field_upper names_upper upper_answers
ties_count = (refl, refl, refl)

pub guard_isolates : Isolates rule_of
unfolding number_by answer_by next_by answer_in next_in role_told_in in_ranges_in
guard_isolates L low high = isolated L

-- what the lower seat 0 asks below, guard refuses
pub refused : answers start (openw_16 ∷ grant_16 ∷ delete_17 ∷ share_16 ∷ join_5_4 ∷ []) ≡ 10 ∷ 10 ∷ 13 ∷ 10 ∷ 10 ∷ []
unfolding computing morning_users start_in
refused = refl

-- two logs of no upper requests but those of `after`, the first of which begins with q: what a test tells of the upper
-- parts at their ends
module _ (rule : Request → Rule) (isolates : Isolates rule) (q : Request) (after : List Request) where
  told : (P : Tables → Bool) → upper_requests 1 (q ∷ after) ≡ upper_requests 1 after
      → P (upper 1 (run_log (next_by rule) start (q ∷ after))) ≡ P (upper 1 (run_log (next_by rule) start after))
  told P same = ap P (isolates 1 (lit≤ tt) (lit≤ tt) start start start_sound start_sound refl (q ∷ after) after same).0

-- seat 0 opens root 16 for writing, the tables are not sound from then on, and seat 4 cannot sign in
pub openw_fails : Isolates openw_without_10 → ⊥
unfolding computing morning_users start_in upper upper_session upper_role from is_upper upper_requests run_log next_by number_by misread instead
openw_fails h = true≢false (sym (told openw_without_10 h openw_16 (login_4 ∷ []) (λ v. (get_or v.sessions 0 no_session).live) refl))

-- seat 0 gives the upper role 8 a right on root 16
pub grant_fails : Isolates grant_without_10 → ⊥
unfolding computing morning_users start_in upper upper_session upper_role from is_upper upper_requests run_log next_by number_by misread instead
grant_fails h = true≢false (told grant_without_10 h grant_16 [] (λ v. has (get_or v.roles 4 no_role).reads 0) refl)

-- seat 0 deletes object 17
pub delete_fails : Isolates delete_unopened → ⊥
unfolding computing morning_users start_in upper upper_session upper_role from is_upper upper_requests run_log next_by number_by misread instead
delete_fails h = true≢false (sym (told delete_unopened h delete_17 [] (λ v. (get_or v.entities 1 no_entity).live) refl))

-- seat 0 shares root 16, on which it has own by the keeper of level 1
pub share_fails : Isolates share_without_10 → ⊥
unfolding computing morning_users start_in upper upper_session upper_role from is_upper upper_requests run_log next_by number_by misread instead
share_fails h = true≢false (told share_without_10 h share_16 [] (λ v. eqb (get_or v.entities 0 no_entity).shared 1) refl)

-- seat 0 ties the keeper 4 to role 5
pub join_fails : Isolates join_from_below → ⊥
unfolding computing morning_users start_in upper upper_session upper_role from is_upper upper_requests run_log next_by number_by misread instead
join_fails h = true≢false (told join_from_below h join_5_4 [] (λ v. has (get_or v.roles 1 no_role).juniors 0) refl)
