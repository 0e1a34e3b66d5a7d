-- What the guard hands back to a host in any number of calls, one request at a time or many, in any cut. That the isolation rule
-- holds of it is `calls_isolate` (proofs/Calls). The premises are what the host has who made the calls: the contracts of
-- `Tables::step` (guard/src/step.rt) and `Tables::run` (guard/src/run.rt). Each of the nineteen methods is a `step`
-- (guard/src/methods.rt).
--     Call, Calls         one call, and calls one after the other: from which tables, the requests made, their answers, the roles told
--                         (each as its byte), to which tables
--     compared            of the answers beside a log, those that the rule compares
use Rattle.std.specs.Prelude.{ℕ, ◌≡◌, cond, List, [], ◌∷◌, ◌++◌, length, take}
use Rattle.bitset.specs.Tests.{every}
use Rattle.guard.specs.Told.{role_byte}
use Rattle.guard.specs.Step.{step}
use Rattle.isolation.specs.Upper.{is_upper, names_upper}
use Rattle.guard.specs.Batch.{batch, RunsBatch}
use Rattle.guard.specs.declared.Tables.{Tables}
use Rattle.guard.specs.declared.Request.{Request}
use Rattle.guard.specs.declared.Outcome.{Outcome}

-- One call on tables t: the requests that it made, the answers that it gave to them, the roles that it told, and the tables that it
-- handed back.
pub data Call : Tables → List Request → List ℕ → List ℕ → Tables → Type 0 where
  -- `t.step(q)` handed back o
  stepped : {t : Tables} {q : Request} {o : Outcome} → o ≡ step t q → Call t (q ∷ []) (o.answer ∷ []) (role_byte o.role ∷ []) o.tables
  -- `t.run(&rows, &mut answers, &mut roles)` handed back u, and made `new` of the answers `old` and `new_roles` of the roles
  -- `old_roles`: one for each request, the rest as it was
  ran : {t u : Tables} {rows old new old_roles new_roles : List ℕ} → RunsBatch t rows old new old_roles new_roles u
      → Call t (batch rows old old_roles) (take (length (batch rows old old_roles)) new) (take (length (batch rows old old_roles)) new_roles) u

-- Calls one after the other, each on the tables that the one before handed back.
pub data Calls : Tables → List Request → List ℕ → List ℕ → Tables → Type 0 where
  none : {t : Tables} → Calls t [] [] [] t
  more : {t u v : Tables} {a b : List Request} {p q r s : List ℕ} → Call t a p r u → Calls u b q s v → Calls t (a ++ b) (p ++ q) (r ++ s) v

-- of the answers or the roles beside a log, those of upper requests that name only upper seats, roles and entities
unfoldable pub compared : ℕ → List Request → List ℕ → List ℕ
compared L [] told = []
compared L (q ∷ log) [] = []
compared L (q ∷ log) (n ∷ told) = cond (every (is_upper L q ∷ names_upper L q ∷ [])) (n ∷ compared L log told) (compared L log told)
