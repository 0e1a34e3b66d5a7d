-- The tables, logs and misreadings of proofs/Teeth, which shows on them what the isolation rule speaks of and what it shuts out.
--     start, start_2, start_tied      where all logs start
--     log_a .. log_h                  the logs
--     Isolates                        the rule for the step by any rules
--     misread                         a misreading: the rule of one call, with another condition at one number
use Rattle.std.specs.Prelude.{Option, None}
use Rattle.std.specs.Prelude.{ℕ, ◌≤◌, ◌≡◌, Bool, true, false, not, cond, List, [], ◌∷◌, map, eqb}
use Rattle.bitset.specs.Tests.{every}
use Rattle.guard.specs.Level.{role_level}
use Rattle.guard.specs.Label.{all_categories, no_label}
use Rattle.guard.specs.Tables.{edition1, edition2, execute, has_right}
use Rattle.guard.specs.Sound.{sound}
use Rattle.guard.specs.Fresh.{fresh}
use Rattle.worked.proofs.Morning.{morning_users}
use Rattle.guard.specs.Edits.{at_session, at_role, at_entity, listing, tie_junior, made_role}
use Rattle.guard.specs.Refusals.{Refusal, ◌when◌, first}
use Rattle.guard.specs.Conditions.{recorded_parent}
use Rattle.guard.specs.Requests.{Rule, field_in_range_in, rule_of}
use Rattle.guard.specs.Step.{role_opening}
use Rattle.guard.specs.Methods.{share_request, tie_request}
use Rattle.isolation.specs.Upper.{upper, is_upper, names_upper, upper_requests}
use Rattle.guard.specs.declared.Tables.{Tables}
use Rattle.guard.specs.declared.Request.{Request}
use Rattle.isolation.specs.Log.{run_log, answers_of}

-- ---- where all logs of this file start: fresh tables with object 17 in root 16 (level 1), with role 5 (level 1), which lists user 0,
-- and with seat 0 (level 0) signed in, which holds the keepers 0 and 4 of levels 0 and 1
unfoldable pub start_in : ℕ → Tables
start_in edition =
    at_session 0 (λ old. record { live = true; user = 0; label = no_label; roles = 17; reading = 0; writing = 0 })
    (at_role 5 (λ old. listing 1 made_role)
    (at_entity 17 (λ old. record { live = true; kind = 0; parent = 16; name = 7; label = no_label; shared = 0 }) (fresh morning_users edition)))

abbrev pub start : Tables
start = start_in edition1

abbrev pub start_2 : Tables
start_2 = start_in edition2

-- .. or with the keeper 4 as a junior of role 5
unfoldable pub start_tied : Tables
start_tied = at_role 5 (tie_junior 4) start

-- one request: call, seat, role, entity, rights; the other fields are 0
abbrev pub ask : ℕ → ℕ → ℕ → ℕ → ℕ → Request
ask call seat role entity rights =
    record { call = call; seat = seat; user = 0; role = role; entity = entity; parent = 0; kind = 0; name = 0; grade = 0; cats = 0; rights = rights; shared = 0; junior = 0 }

-- of the lower seats 0 and 1
abbrev pub make_1 : Request
make_1 = ask 14 0 1 0 0

abbrev pub join_0_1 : Request
join_0_1 = tie_request 17 0 0 1

abbrev pub logout_0 : Request
logout_0 = ask 1 0 0 0 0

abbrev pub openr_by_1 : Request
openr_by_1 = ask 4 1 0 0 0

abbrev pub openw_16 : Request
openw_16 = ask 5 0 0 16 0

abbrev pub grant_16 : Request
grant_16 = ask 10 0 8 16 1

abbrev pub delete_17 : Request
delete_17 = ask 8 0 0 17 0

abbrev pub share_16 : Request
share_16 = share_request 0 16 1

abbrev pub join_5_4 : Request
join_5_4 = tie_request 17 0 5 4

-- of the upper seat 4: its login, its keeper taken, and tied to role 5, the lower role 1 taken
abbrev pub login_4 : Request
login_4 = ask 0 4 0 0 0

abbrev pub take_4 : Request
take_4 = ask 2 4 4 0 0

abbrev pub join_by_4 : Request
join_by_4 = tie_request 17 4 5 4

abbrev pub take_1 : Request
take_1 = ask 2 4 1 0 0

-- ---- what is asked from below may differ in kind, number and place, and be refused; a tie of lower roles is made in the one log
-- alone, that of upper roles in both
abbrev pub log_a : List Request
log_a = make_1 ∷ join_0_1 ∷ login_4 ∷ take_4 ∷ join_by_4 ∷ []

abbrev pub log_b : List Request
log_b = login_4 ∷ openr_by_1 ∷ logout_0 ∷ take_4 ∷ join_by_4 ∷ []

-- ---- edition 2: seat 4 takes the keeper of level 0 and reads the root of level 0. In one log seat 0 has taken the right from that
-- role before
abbrev pub revoke_0 : Request
revoke_0 = ask 11 0 0 0 1

abbrev pub take_0 : Request
take_0 = ask 2 4 0 0 0

abbrev pub openr_0 : Request
openr_0 = ask 4 4 0 0 0

abbrev pub log_c : List Request
log_c = login_4 ∷ take_0 ∷ openr_0 ∷ []

abbrev pub log_d : List Request
log_d = revoke_0 ∷ login_4 ∷ take_0 ∷ openr_0 ∷ []

-- ---- edition 2: seat 4 holds the keepers 0 and 4 and reads the root of level 0, which is lower. In one log it does so by role 0; in
-- the other seat 0 has granted the right to role 4 and taken it from role 0 before. So the rule cannot compare the role there, and
-- does not: the request names something lower
abbrev pub log_f : List Request
log_f = login_4 ∷ take_0 ∷ take_4 ∷ openr_0 ∷ []

abbrev pub log_g : List Request
log_g = ask 10 0 4 0 1 ∷ revoke_0 ∷ login_4 ∷ take_0 ∷ take_4 ∷ openr_0 ∷ []

-- ---- two tables that differ in the edition alone: an upper request that names only what is upper, openr by seat 8 of root 16, is
-- answered 10 in edition 1 and 0 in edition 2. So the rule needs the edition in the upper part
abbrev pub log_e : List Request
log_e = ask 0 8 0 0 0 ∷ ask 2 8 4 0 0 ∷ ask 4 8 0 16 0 ∷ []

-- ---- two tables that differ in a tie between upper roles alone: openr by seat 4 of root 16 is answered 0 where the keeper 4 is a junior
-- of role 5, which the seat holds, and 13 where it is not. So the rule needs the ties in the upper part
abbrev pub log_h : List Request
log_h = login_4 ∷ ask 2 4 5 0 0 ∷ ask 4 4 0 16 0 ∷ []

-- ---- the step by other rules, and the isolation rule for it
module _ (rule : Request → Rule) where
  unfoldable pub number_by : Tables → Request → ℕ
  number_by t q = first (1 when not (sound t) ∷ 2 when not (every (map (field_in_range_in all_categories q) (rule q).uses)) ∷ (rule q).refusals t q)

  unfoldable pub answer_by : Tables → Request → ℕ × Option ℕ
  answer_by t q = (number_by t q, cond (eqb (number_by t q) 0) (role_opening t q) None)

  unfoldable pub next_by : Tables → Request → Tables
  next_by t q = cond (eqb (number_by t q) 0) ((rule q).effect q t) t

  abbrev pub Isolates : Type 0
  Isolates =
      (L : ℕ) → 1 ≤ L → L ≤ 3 → (t u : Tables) → sound t ≡ true → sound u ≡ true → upper L t ≡ upper L u
      → (a b : List Request) → upper_requests L a ≡ upper_requests L b
      → (upper L (run_log next_by t a) ≡ upper L (run_log next_by u b))
      × (answers_of next_by answer_by (is_upper L) (names_upper L) t a ≡ answers_of next_by answer_by (is_upper L) (names_upper L) u b)

-- ---- a misreading: the rule of one call, with another condition at one number
unfoldable pub instead : ℕ → Bool → List Refusal → List Refusal
instead n c [] = []
instead n c (r ∷ rs) = cond (eqb r.number n) (n when c) r ∷ instead n c rs

unfoldable pub misread : ℕ → ℕ → (Tables → Request → Bool) → Request → Rule
misread call n c q =
    let rule = rule_of q in
    record {
      uses = rule.uses;
      refusals = λ t q. cond (eqb q.call call) (instead n (c t q) (rule.refusals t q)) (rule.refusals t q);
      effect = rule.effect;
    }

abbrev pub openw_without_10 : Request → Rule
openw_without_10 = misread 5 10 (λ t q. false)

abbrev pub grant_without_10 : Request → Rule
grant_without_10 = misread 10 10 (λ t q. false)

-- delete without asking that the parent is open for writing: 13 is the lack of execute on it alone
abbrev pub delete_unopened : Request → Rule
delete_unopened = misread 8 13 (λ t q. not (has_right t q.seat execute (recorded_parent t q)))

abbrev pub share_without_10 : Request → Rule
share_without_10 = misread 16 10 (λ t q. false)

-- join without asking that the seat is not below the senior: 10 is that the two differ in level, alone
abbrev pub join_from_below : Request → Rule
join_from_below = misread 17 10 (λ t q. not (eqb (role_level q.junior) (role_level q.role)))
