-- The isolation rule over the code: for what the guard hands back to a host in any number of calls, in the words of specs/Calls.
--     calls_isolate       the isolation rule, for any two such sequences of calls
-- Assumes nothing.
use Rattle.std.specs.Prelude.{Option}
use Rattle.std.specs.Prelude.{ℕ, ◌≤◌, ◌≡◌, refl, Bool, true, false, cond, List, [], ◌∷◌, ◌++◌, map, length}
use Rattle.std.proofs.Common.{sym, ap, ◌∙◌, take_at}
use Rattle.std.proofs.lemmas.List.{map-append, length-map}
use Rattle.bitset.specs.Tests.{every}
use Rattle.guard.specs.Sound.{sound}
use Rattle.guard.specs.Told.{role_byte}
use Rattle.guard.specs.Step.{answer, next, role_told, step, run, run_in, each_in, answers, roles_told}
use Rattle.guard.specs.SameRequest.{same_requests}
use Rattle.isolation.specs.Upper.{upper, is_upper, names_upper, upper_requests, answered, upper_answers}
use Rattle.guard.specs.Batch.{batch}
use Rattle.guard.specs.declared.Tables.{Tables}
use Rattle.guard.specs.declared.Request.{Request}
use Rattle.guard.specs.declared.Outcome.{Outcome}
use Rattle.guard.proofs.Logs.{each, run_append, each_append, length_each}
use Rattle.isolation.proofs.Theorem.{isolation}
use Rattle.isolation.specs.Calls.{Call, Calls, compared, stepped, ran, none, more}

-- ---- what the calls made is one log, what they answered are its answers, and what they told are its roles
abbrev bytes : Tables → List Request → List ℕ
bytes t a = map role_byte (roles_told t a)

abbrev Logged : Tables → List Request → List ℕ → List ℕ → Tables → Type 0
Logged t a p r u = (u ≡ run t a) × (p ≡ answers t a) × (r ≡ bytes t a)

bytes_append : (t : Tables) (a b : List Request) → bytes t (a ++ b) ≡ bytes t a ++ bytes (run t a) b
bytes_append t a b = ap (map role_byte) (each_append role_told t a b) ∙ map-append role_byte (roles_told t a) (roles_told (run t a) b)

length_bytes : (t : Tables) (a : List Request) → length (bytes t a) ≡ length a
length_bytes t a = length-map (roles_told t a) role_byte ∙ length_each role_told t a

one_logged : {t u : Tables} {a : List Request} {p r : List ℕ} → Call t a p r u → Logged t a p r u
unfolding run_in each_in step
one_logged (stepped e) =
    (ap (λ (o : Outcome). o.tables) e, ap (λ (o : Outcome). o.answer ∷ []) e, ap (λ (o : Outcome). role_byte o.role ∷ []) e)
one_logged (ran {t = t} {rows = rows} {old = old} {old_roles = old_roles} b) =
    let log = batch rows old old_roles in
    (b.tables, rw b.answered (take_at (answers t log) _ _ (length_each answer t log)), rw b.told (take_at (bytes t log) _ _ (length_bytes t log)))

logged : {t u : Tables} {a : List Request} {p r : List ℕ} → Calls t a p r u → Logged t a p r u
unfolding run_in each_in
logged none = (refl, refl, refl)
logged (more call calls) =
    let (u_is, p_is, r_is) = one_logged call in
    let (v_is, q_is, s_is) = logged calls in
    (v_is ∙ rw (u_is, run_append), rw (p_is, q_is, u_is, each_append), rw (r_is, s_is, u_is, bytes_append))

-- what a log is handed back and the rule compares
compared_each : (L : ℕ) (f : ℕ × Option ℕ → ℕ) (t : Tables) (log : List Request)
    → compared L log (each (λ v q. f (answered v q)) t log) ≡ map f (upper_answers L t log)
unfolding compared each_in upper_answers
compared_each L f t [] = refl
compared_each L f t (q ∷ log) = go (every (is_upper L q ∷ names_upper L q ∷ [])) _ _ (compared_each L f (next t q) log)
  where
    go : (c : Bool) (l : List ℕ) (m : List (ℕ × Option ℕ)) → l ≡ map f m → cond c (f (answered t q) ∷ l) l ≡ map f (cond c (answered t q ∷ m) m)
    go true l m e = rw e
    go false l m e = e

abbrev number : ℕ × Option ℕ → ℕ
number (n, role) = n

abbrev byte : ℕ × Option ℕ → ℕ
byte (n, role) = role_byte role

bytes_are : (t : Tables) (log : List Request) → bytes t log ≡ each (λ v q. byte (answered v q)) t log
unfolding each_in
bytes_are t [] = refl
bytes_are t (q ∷ log) = ap (λ (l : List ℕ). role_byte (role_told t q) ∷ l) (bytes_are (next t q) log)

-- ---- the rule
pub calls_isolate :
    (L : ℕ) → 1 ≤ L → L ≤ 3
    → (t u : Tables) → sound t ≡ true → sound u ≡ true → upper L t ≡ upper L u
    -- calls that made the logs a and b, answered p and q, told r and s, and at last handed back t2 and u2
    → (a b : List Request) (p q r s : List ℕ) (t2 u2 : Tables) → Calls t a p r t2 → Calls u b q s u2
    → same_requests (upper_requests L a) (upper_requests L b) ≡ true
    → (upper L t2 ≡ upper L u2) × (compared L a p ≡ compared L b q) × (compared L a r ≡ compared L b s)
calls_isolate L low high t u st su e a b p q r s t2 u2 left right same =
    let (parts, told) = isolation L low high t u st su e a b same in
    let (t2_is, p_is, r_is) = logged left in
    let (u2_is, q_is, s_is) = logged right in
    let alike : (f : ℕ × Option ℕ → ℕ) → compared L a (each (λ v q. f (answered v q)) t a) ≡ compared L b (each (λ v q. f (answered v q)) u b) =
    λ f. compared_each L f t a ∙ ap (map f) told ∙ sym (compared_each L f u b) in (
      ap (upper L) t2_is ∙ parts ∙ sym (ap (upper L) u2_is),
      ap (compared L a) p_is ∙ alike number ∙ sym (ap (compared L b) q_is),
      ap (compared L a) (r_is ∙ bytes_are t a) ∙ alike byte ∙ sym (ap (compared L b) (s_is ∙ bytes_are u b)),
    )
