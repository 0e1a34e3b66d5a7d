-- The isolation rule for logs whose upper requests ask the same: fields that a request does not use may differ.
--     same_upper, same_names      requests that ask the same belong to one level, and name alike
--     swapped         a log with other upper requests that ask the same runs the same
--     rule_same       the isolation rule, for any level
-- Assumes nothing.
use Rattle.std.specs.Prelude.{ℕ, ◌≡◌, Bool, cond}
use Rattle.std.proofs.Math.Path.{refl}
use Rattle.std.proofs.Common.{sym, ap, ◌∙◌, true≢false}
use Rattle.std.proofs.Math.Bool.{true, false}
use mathlib.Core.List.{List, [], ◌∷◌}
use Rattle.bitset.specs.Tests.Laws.{every_at}
use Rattle.guard.specs.Sound.{sound}
use Rattle.guard.specs.Step.{next, run, run_in}
use Rattle.guard.specs.SameRequest.{same_request, same_requests}
use Rattle.isolation.specs.Upper.{upper, is_upper, field_upper, names_upper, upper_requests, upper_answers}
use Rattle.guard.specs.declared.Tables.{Tables}
use Rattle.guard.specs.declared.Request.{Request}
use Rattle.guard.specs.Requests.{Field, call, seat, user, role, entity, parent, kind, name, label, rights, shared, junior, rule_of}
use Rattle.guard.proofs.Laws.SameRequest.{SameField, map_same, same_rule, same_fields, same_seat, same_answer, same_next, same_role, same_refl}
use Rattle.isolation.proofs.OneRequest.Rule.{rule}

-- ---- two requests that ask the same
upper_same : (p q : Request) (L : ℕ) (f : Field) → SameField p q f → field_upper L p f ≡ field_upper L q f
unfolding field_upper
upper_same p q L call e = refl
upper_same p q L seat e = rw e
upper_same p q L user e = refl
upper_same p q L role e = rw e
upper_same p q L entity e = rw e
upper_same p q L parent e = rw e
upper_same p q L kind e = refl
upper_same p q L name e = refl
upper_same p q L label e = refl
upper_same p q L rights e = refl
upper_same p q L shared e = refl
upper_same p q L junior e = rw e

module _ (p q : Request) (same : same_request p q ≡ true) where
  same_upper : (L : ℕ) → is_upper L p ≡ is_upper L q
  unfolding is_upper
  same_upper L = rw (same_seat p q same)

  same_names : (L : ℕ) → names_upper L p ≡ names_upper L q
  unfolding names_upper
  same_names L = rw (same_rule p q same, map_same p q (field_upper L p) (field_upper L q) (upper_same p q L) (rule_of p).uses (same_fields p q same))

-- ---- two logs
module _ (L : ℕ) where
  -- c and b run the same, from every tables
  abbrev Alike : List Request → List Request → Type 0
  Alike c b = (u : Tables) → (run u c ≡ run u b) × (upper_answers L u c ≡ upper_answers L u b)

  -- one request more: p in the place of q
  alike_more : (p q : Request) → same_request p q ≡ true → (c b : List Request) → Alike c b → Alike (p ∷ c) (q ∷ b)
  unfolding run_in upper_answers
  alike_more p q same c b alike u =
      let (ran, told) = alike (next u q) in
      (rw (same_next p q same u) ran, rw (same_upper p q same L, same_names p q same L, same_answer p q same u, same_role p q same u, same_next p q same u, told))

  -- a log that runs as b does, with the upper requests `ups`
  abbrev Swapped : List Request → List Request → Type 0
  Swapped ups b = (c : List Request) × (upper_requests L c ≡ ups) × Alike c b

  swapped : (b ups : List Request) → same_requests ups (upper_requests L b) ≡ true → Swapped ups b
  unfolding same_requests upper_requests
  swapped [] [] h = ([], refl, λ u. (refl, refl))
  swapped [] (p ∷ ups) h = absurd (true≢false (sym h))
  swapped (q ∷ b) ups h = go (is_upper L q) refl ups h (swapped b)
    where
      go : (up : Bool) → is_upper L q ≡ up → (ups : List Request) → same_requests ups (cond up (q ∷ upper_requests L b) (upper_requests L b)) ≡ true
          → ((ups : List Request) → same_requests ups (upper_requests L b) ≡ true → Swapped ups b) → Swapped ups (q ∷ b)
      go true up [] h more = absurd (true≢false (sym h))
      go true up (p ∷ ups) h more =
          let same = every_at _ h 0 in
          let (c, is, alike) = more ups (every_at _ h 1) in
          (p ∷ c, rw (same_upper p q same L, up, is), alike_more p q same c b alike)
      go false low ups h more =
          let (c, is, alike) = more ups h in
          (q ∷ c, rw (low, is), alike_more q q (same_refl q) c b alike)

  pub rule_same : (t u : Tables) → sound t ≡ true → sound u ≡ true → upper L t ≡ upper L u
      → (a b : List Request) → same_requests (upper_requests L a) (upper_requests L b) ≡ true
      → (upper L (run t a) ≡ upper L (run u b)) × (upper_answers L t a ≡ upper_answers L u b)
  rule_same t u st su e a b same =
      let (c, is, alike) = swapped b (upper_requests L a) same in
      let (parts, told) = rule L t u st su e a c (sym is) in
      (parts ∙ ap (upper L) (alike u).0, told ∙ (alike u).1)
