-- From one request to logs, over any state, request and answer. What is shown of one request here holds of two logs of
-- any length, so a change of the requests or of the answers only instantiates this again.
--     run_log, upper_of, answers_of      a log run from a state, its upper requests, the answers that are compared
--     own                             a log against its own upper requests: the one induction
--     logs                            two logs with the same upper requests
-- Assumes nothing.
use Rattle.std.specs.Prelude.{◌≡◌, Bool}
use Rattle.std.proofs.Math.Path.{refl}
use Rattle.std.proofs.Common.{sym, ◌∙◌}
use Rattle.std.proofs.Math.Bool.{true, false, cond}
use mathlib.Core.List.{List, [], ◌∷◌, map}
use Rattle.bitset.specs.Tests.{every}
use Rattle.bitset.specs.Tests.Laws.{every_i, every_e, is_false, clash}

-- the state after a log
unfoldable pub run_log : {S Q : Type 0} → (S → Q → S) → S → List Q → S
run_log next s [] = s
run_log next s (q ∷ log) = run_log next (next s q) log

-- the upper requests of a log, in order
unfoldable pub upper_of : {Q : Type 0} → (Q → Bool) → List Q → List Q
upper_of is_upper [] = []
upper_of is_upper (q ∷ log) = cond (is_upper q) (q ∷ upper_of is_upper log) (upper_of is_upper log)

-- the answers to those upper requests that are compared, in order
unfoldable pub answers_of : {S Q A : Type 0} → (S → Q → S) → (S → Q → A) → (Q → Bool) → (Q → Bool) → S → List Q → List A
answers_of next answer is_upper compared s [] = []
answers_of next answer is_upper compared s (q ∷ log) =
    cond (every (is_upper q ∷ compared q ∷ []))
    (answer s q ∷ answers_of next answer is_upper compared (next s q) log)
    (answers_of next answer is_upper compared (next s q) log)

-- `fit` is what an upper request has to satisfy for the rule to speak of its log.
module _ {S Q A W : Type 0} (next : S → Q → S) (answer : S → Q → A) (is_upper compared fit : Q → Bool) (view : S → W)
    (Good : S → Type 0)
    (stays : (s : S) (q : Q) → Good s → Good (next s q))
    (keeps : (s : S) (q : Q) → Good s → is_upper q ≡ false → view (next s q) ≡ view s)
    (agrees : (s u : S) (q : Q) → Good s → Good u → view s ≡ view u → is_upper q ≡ true → fit q ≡ true → view (next s q) ≡ view (next u q))
    (tells : (s u : S) (q : Q) → Good s → Good u → view s ≡ view u → is_upper q ≡ true → fit q ≡ true → compared q ≡ true → answer s q ≡ answer u q)
  where
    -- what two logs, run from two states, agree on
    abbrev Agree : S → List Q → S → List Q → Type 0
    Agree s a u b =
        (view (run_log next s a) ≡ view (run_log next u b))
        × (answers_of next answer is_upper compared s a ≡ answers_of next answer is_upper compared u b)

    -- both logs begin with the same upper request
    both_step : (s u : S) (q : Q) (a b : List Q) → Good s → Good u → view s ≡ view u → is_upper q ≡ true → fit q ≡ true
        → Agree (next s q) a (next u q) b → Agree s (q ∷ a) u (q ∷ b)
    unfolding run_log answers_of
    both_step s u q a b gs gu e up ok (seen, told) = (seen, go (every (is_upper q ∷ compared q ∷ [])) refl)
      where
        go : (c : Bool) → every (is_upper q ∷ compared q ∷ []) ≡ c
            → cond c (answer s q ∷ answers_of next answer is_upper compared (next s q) a) (answers_of next answer is_upper compared (next s q) a)
            ≡ cond c (answer u q ∷ answers_of next answer is_upper compared (next u q) b) (answers_of next answer is_upper compared (next u q) b)
        go true c = let same = tells s u q gs gu e up ok (every_e (is_upper q ∷ compared q ∷ []) c).1.0 in cc
        go false c = told

    -- the first log begins with a request that is not upper
    one_step : (s u : S) (q : Q) (a b : List Q) → is_upper q ≡ false → Agree (next s q) a u b → Agree s (q ∷ a) u b
    unfolding run_log answers_of
    one_step s u q a b low (seen, told) = (seen, rw not_compared told)
      where
        not_compared : every (is_upper q ∷ compared q ∷ []) ≡ false
        not_compared = is_false _ (λ h. clash (is_upper q) (every_e (is_upper q ∷ compared q ∷ []) h).0 low)

    -- a log against its own upper requests
    own : (log : List Q) (s u : S) → Good s → Good u → view s ≡ view u → every (map fit (upper_of is_upper log)) ≡ true
        → Agree s log u (upper_of is_upper log)
    unfolding run_log answers_of upper_of
    own [] s u gs gu e ok = (e, refl)
    own (q ∷ log) s u gs gu e ok = go (is_upper q) refl ok (own log)
      where
        go : (c : Bool) → is_upper q ≡ c → every (map fit (cond c (q ∷ upper_of is_upper log) (upper_of is_upper log))) ≡ true
            → ((s u : S) → Good s → Good u → view s ≡ view u → every (map fit (upper_of is_upper log)) ≡ true → Agree s log u (upper_of is_upper log))
            → Agree s (q ∷ log) u (cond c (q ∷ upper_of is_upper log) (upper_of is_upper log))
        go true up ok rest =
            let (here, more) = every_e (fit q ∷ map fit (upper_of is_upper log)) ok in
            both_step s u q log (upper_of is_upper log) gs gu e up here
            (rest (next s q) (next u q) (stays s q gs) (stays u q gu) (agrees s u q gs gu e up here) (every_i _ more))
        go false low ok rest = one_step s u q log (upper_of is_upper log) low (rest (next s q) u (stays s q gs) gu (keeps s q gs low ∙ e) ok)

    pub logs : (s u : S) → Good s → Good u → view s ≡ view u
        → (a b : List Q) → upper_of is_upper a ≡ upper_of is_upper b → every (map fit (upper_of is_upper a)) ≡ true
        → (view (run_log next s a) ≡ view (run_log next u b))
        × (answers_of next answer is_upper compared s a ≡ answers_of next answer is_upper compared u b)
    logs s u gs gu e a b same ok =
        let (seen_a, told_a) = own a s u gs gu e ok in
        let (seen_b, told_b) = own b u u gu gu refl (rw same at ok) in
        (seen_a ∙ rw same (sym seen_b), told_a ∙ rw same (sym told_b))
