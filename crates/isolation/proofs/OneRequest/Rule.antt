-- One request, and from it all logs.
--     lower_keeps, upper_agrees, upper_answers_lem      what Log asks of one request
--     isolated                                    the isolation rule, for any level, in Log's terms
--     rule                                        .. over guard's run and upper_answers
-- Assumes nothing.
use Rattle.std.specs.Prelude.{ℕ, ◌≤◌, ◌≡◌, Bool, cond, eqb}
use Rattle.std.proofs.Math.Path.{refl, sym, ap}
use Rattle.std.proofs.Common.{◌∙◌}
use Rattle.std.proofs.Math.Bool.{true, false, not}
use mathlib.Core.List.{List, [], ◌∷◌, map}
use Rattle.bitset.specs.Tests.{every}
use Rattle.bitset.specs.Tests.Laws.{every_i, every_e, every_at, is_false, clash, of_not_false}
use Rattle.guard.specs.Tables.{read, write}
use Rattle.guard.specs.Sound.{sound}
use Rattle.guard.specs.Requests.{Rule, Field, seat, field_in_range_in, login, logout, take, drop, openr, openw, close, create, delete, rename, grant, revoke, list, unlist, make, unmake, share, join, unjoin, unknown, rules, rule_of}
use Rattle.guard.specs.Step.{in_ranges_in, answer, answer_in, next, next_in, role_opening, role_told_in, run, run_in}
use Rattle.guard.specs.Kind as kinds
use Rattle.guard.specs.Private.InForce.{field_in_range, in_ranges}
use Rattle.isolation.specs.Upper.{first_session, first_entity, upper, is_upper, field_upper, names_upper, upper_requests, answered, upper_answers}
use Rattle.guard.specs.declared.Tables.{Tables}
use Rattle.guard.specs.declared.Request.{Request}
use Rattle.guard.proofs.Laws.Refusals.{alike_first}
use Rattle.guard.proofs.Laws.Told.{opening_same}
use Rattle.guard.proofs.Laws.Step.{Done, next_by_lem, each_rule}
use Rattle.guard.proofs.Laws.Sound.{formed_e}
use Rattle.guard.proofs.Kept.{sound_next}
use Rattle.isolation.specs.Log.{run_log, upper_of, answers_of, logs}
use Rattle.isolation.proofs.OneRequest.{◌and◌}
use Rattle.isolation.proofs.OneRequest.Views.{upper_seat, upper_entity, same_of, of_same, role_for_same}
use Rattle.isolation.proofs.OneRequest.Keep.{keeps}
use Rattle.isolation.proofs.OneRequest.Respect.{respects}
use Rattle.isolation.proofs.OneRequest.Agree.{agrees}

-- every rule uses the acting seat, first
abbrev SeatFirst : List Field → Type 0
SeatFirst [] = ⊥
SeatFirst (f ∷ fs) = f ≡ seat

seat_first : (q : Request) → SeatFirst (rule_of q).uses
unfolding rules login logout take drop openr openw close create delete rename grant revoke list unlist make unmake share join unjoin unknown
seat_first =
    each_rule (λ (r : Rule). SeatFirst r.uses)
    (refl and refl and refl and refl and refl and refl and refl and refl and refl and refl and refl and refl and refl and refl and refl and refl and refl and refl and refl and tt) refl

module _ (L : ℕ) where
  -- a request in range that names only upper things is upper
  names_upper_lem : (q : Request) → in_ranges q ≡ true → names_upper L q ≡ true → is_upper L q ≡ true
  unfolding in_ranges_in names_upper is_upper field_in_range_in field_upper
  names_upper_lem q = go (rule_of q).uses (seat_first q)
    where
      go : (fs : List Field) → SeatFirst fs → every (map (field_in_range q) fs) ≡ true → every (map (field_upper L q) fs) ≡ true → is_upper L q ≡ true
      go [] first r n = absurd first
      go (f ∷ fs) first r n = every_i _ (rw first at (every_at _ r 0), (rw first at (every_at _ n 0), tt))

  -- a request that names something lower, if it is done
  low_names : (t : Tables) (q : Request) → sound t ≡ true → (Done (rule_of q) t q → names_upper L q ≡ false) → upper L (next t q) ≡ upper L t
  unfolding names_upper
  low_names t q st low =
      next_by_lem (λ (v : Tables). sound v ≡ true → upper L v ≡ upper L t) t q (λ s. refl) (λ d s. of_same L _ t (keeps L t q d s (low d))) (sound_next t q st)

  lower_keeps : (t : Tables) (q : Request) → sound t ≡ true → is_upper L q ≡ false → upper L (next t q) ≡ upper L t
  unfolding in_ranges_in
  lower_keeps t q st low = low_names t q st (λ d. is_false _ (λ n. clash (is_upper L q) (names_upper_lem q d.ranges n) low))

  upper_tells : (t u : Tables) (q : Request) → sound t ≡ true → sound u ≡ true → upper L t ≡ upper L u → names_upper L q ≡ true → answer t q ≡ answer u q
  unfolding answer_in in_ranges_in names_upper
  upper_tells t u q st su e n =
      alike_first _ _
      (refl, ap not (st ∙ sym su), λ a b. (refl, refl, λ r b. agrees L q t u (same_of L t u e) st su (of_not_false _ r) n))

  -- openr and openw name their seat and their entity
  openr_names : (q : Request) → names_upper L q ≡ true → q.call ≡ kinds.openr → (first_session L ≤ q.seat) × (first_entity L ≤ q.entity)
  unfolding names_upper field_upper rule_of rules openr
  openr_names q n is = let names = rw is at n in (upper_seat L q.seat (every_at _ names 0), upper_entity L q.entity (every_at _ names 1))

  openw_names : (q : Request) → names_upper L q ≡ true → q.call ≡ kinds.openw → (first_session L ≤ q.seat) × (first_entity L ≤ q.entity)
  unfolding names_upper field_upper rule_of rules openw
  openw_names q n is = let names = rw is at n in (upper_seat L q.seat (every_at _ names 0), upper_entity L q.entity (every_at _ names 1))

  upper_opens : (t u : Tables) (q : Request) → sound t ≡ true → sound u ≡ true → upper L t ≡ upper L u → names_upper L q ≡ true → role_opening t q ≡ role_opening u q
  unfolding role_opening
  upper_opens t u q st su e n =
      let same = role_for_same L t u (same_of L t u e) (formed_e t st).ties (formed_e u su).ties in
      opening_same t u q.call q.seat q.seat q.entity q.entity
      (λ is. let (x, f) = openr_names q n is in same q.seat read q.entity x f)
      (λ is. let (x, f) = openw_names q n is in same q.seat write q.entity x f)

  -- the number, and the role beside it
  upper_answers_lem : (t u : Tables) (q : Request) → sound t ≡ true → sound u ≡ true → upper L t ≡ upper L u → names_upper L q ≡ true → answered t q ≡ answered u q
  unfolding role_told_in
  upper_answers_lem t u q st su e n = rw (upper_tells t u q st su e n, upper_opens t u q st su e n)

  upper_agrees : (t u : Tables) (q : Request) → sound t ≡ true → sound u ≡ true → upper L t ≡ upper L u → upper L (next t q) ≡ upper L (next u q)
  unfolding next_in names_upper
  upper_agrees t u q st su e = go (names_upper L q) refl
    where
      both : names_upper L q ≡ true → (b : Bool) → sound (cond b ((rule_of q).effect q t) t) ≡ true → sound (cond b ((rule_of q).effect q u) u) ≡ true
          → upper L (cond b ((rule_of q).effect q t) t) ≡ upper L (cond b ((rule_of q).effect q u) u)
      both n true st su = of_same L _ _ (respects L q n t u st su (same_of L t u e))
      both n false st su = e

      go : (b : Bool) → names_upper L q ≡ b → upper L (next t q) ≡ upper L (next u q)
      go true n =
          let told = upper_tells t u q st su e n in
          rw told (both n (eqb (answer u q) 0) (rw told at (sound_next t q st)) (sound_next u q su))
      go false low = low_names t q st (λ d. low) ∙ e ∙ sym (low_names u q su (λ d. low))

  -- ---- all logs
  requests_are : (a : List Request) → upper_requests L a ≡ upper_of (is_upper L) a
  unfolding upper_requests upper_of
  requests_are [] = refl
  requests_are (q ∷ a) = rw (requests_are a)

  -- nothing is asked of upper requests
  all_fit : (a : List Request) → every (map (λ (q : Request). true) a) ≡ true
  all_fit [] = every_i [] tt
  all_fit (q ∷ a) = every_i _ (refl, every_e _ (all_fit a))

  -- what is compared of the tables, whose answers are, and which logs
  abbrev View : Tables → Tables
  View = upper L

  abbrev Compared : Request → Bool
  Compared = names_upper L

  abbrev Matching : List Request → List Request → Type 0
  Matching a b = upper_requests L a ≡ upper_requests L b

  pub isolated : (t u : Tables) → sound t ≡ true → sound u ≡ true → View t ≡ View u → (a b : List Request) → Matching a b
      → (View (run_log next t a) ≡ View (run_log next u b))
      × (answers_of next answered (is_upper L) Compared t a ≡ answers_of next answered (is_upper L) Compared u b)
  isolated t u st su e a b same =
      logs next answered (is_upper L) Compared (λ q. true) View (λ v. sound v ≡ true) sound_next lower_keeps
      (λ v w q sv sw e up fit. upper_agrees v w q sv sw e) (λ v w q sv sw e up fit n. upper_answers_lem v w q sv sw e n)
      t u st su e a b (sym (requests_are a) ∙ same ∙ requests_are b) (all_fit (upper_of (is_upper L) a))

  -- ---- the same over guard's run and upper_answers
  run_is : (a : List Request) (t : Tables) → run t a ≡ run_log next t a
  unfolding run_in run_log
  run_is [] t = refl
  run_is (q ∷ a) t = run_is a (next t q)

  answers_are : (a : List Request) (t : Tables) → upper_answers L t a ≡ answers_of next answered (is_upper L) (names_upper L) t a
  unfolding upper_answers answers_of
  answers_are [] t = refl
  answers_are (q ∷ a) t = rw (answers_are a (next t q))

  pub rule : (t u : Tables) → sound t ≡ true → sound u ≡ true → upper L t ≡ upper L u
      → (a b : List Request) → upper_requests L a ≡ upper_requests L b
      → (upper L (run t a) ≡ upper L (run u b)) × (upper_answers L t a ≡ upper_answers L u b)
  rule t u st su e a b same = rw (run_is a t, run_is b u, answers_are a t, answers_are b u) (isolated t u st su e a b same)
