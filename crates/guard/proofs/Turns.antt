-- One turn of a run: from the tables before a request to those after it.
--     Stepped, refuses, does        a number, a role's byte, and where the number is 0 what the rule does, are the request's step
--     opens_nothing, opens_by       .. where no role is told, and where the records of the roles tell one
--     Held, held_none, held_more    after i requests of a batch
--     held_length, held_roles, held_all      .. the room stays, and after all of them the batch is run
--     no_batch, unsound_batch       of no request; on unsound tables
--     one_request                   a batch of one request is its step
-- Assumes nothing.
use Rattle.std.specs.Prelude.{Option, None}
use Prim.Native.Nat.{ℕ, ◌+◌, ◌≤◌, ◌<◌}
use mathlib.Core.Path.{◌≡◌, refl, sym, ap, ◌∙◌}
use mathlib.Core.Bool.{Bool, true, false, cond}
use mathlib.Core.List.{List, [], ◌∷◌, ◌++◌, map, map-append}
use native.Mathlib.Numerals.{add-one}
use native.Mathlib.Omega.{arith}
use lib.Dec.{eqb}
use lib.ListN.{length, get_or, set, drop, replicate, length-append, length-drop, length-map}
use borrow.Author.Tests.{eq-eqb, ne_eqb}
use Rattle.guard.specs.Fresh.{tabulate}
use Rattle.guard.specs.Level.{role_count}
use Rattle.guard.specs.Told.{role_byte}
use Rattle.guard.specs.Tables.{session_at, read, write, role_for}
use Rattle.guard.specs.Sound.{sound}
use Rattle.guard.specs.Refusals.{first}
use Rattle.guard.specs.Requests.{rule_of}
use Rattle.guard.specs.Step.{in_ranges_in, answer, answer_in, next, next_in, role_opening, role_told, role_told_in, step, run, run_in, each_in, answers, roles_told}
use Rattle.guard.specs.Kind as kind
use Rattle.guard.specs.Private.Inside.{number, Placed}
use Rattle.guard.specs.Batch.{row_of, request_at, requests, shorter, batch_length, batch_count, RunsBatch}
use Rattle.guard.specs.Private.Scan.{Keys, opened_by, read_byte}
use Rattle.guard.specs.Private.InForce.{in_ranges}
use Rattle.guard.specs.declared.Tables.{Tables}
use Rattle.guard.specs.declared.Request.{Request}
use Rattle.guard.specs.declared.Outcome.{Outcome}
use Rattle.guard.specs.declared.look.Places.{Places}
use Rattle.guard.proofs.Laws.Sound.{formed_e}
use Rattle.guard.proofs.Laws.Told.{byte_read, opening_same}
use Rattle.guard.proofs.Ranges.{in_openr, in_openw}
use Rattle.guard.proofs.Given.{role_of}
use Rattle.guard.proofs.Kept.{sound_next}
use Rattle.guard.proofs.Filling.{length_tabulate}
use Rattle.guard.proofs.Logs.{each, run_snoc, each_snoc, length_each, store_more, all_refused}

-- ---- a number, the byte of a role, and where the number is 0 what the rule does, are the step
pub record Stepped (t : Tables) (q : Request) (u : Tables) (n b : ℕ) : Type 0 where
  pub tables : u ≡ next t q
  pub answered : n ≡ answer t q
  pub told : b ≡ role_byte (role_told t q)

module _ (t : Tables) (q : Request) (n : ℕ) (h : sound t ≡ true) (judged : n ≡ number (rule_of q) t q) where
  said : answer t q ≡ n
  unfolding answer_in first in_ranges_in number
  said = rw h (sym judged)

  pub refuses : (n ≡ 0 → ⊥) → (b : ℕ) → b ≡ role_byte None → Stepped t q t n b
  unfolding next_in role_told_in
  refuses k b r = record { tables = rw (said, ne_eqb n 0 k); answered = sym said; told = rw (said, ne_eqb n 0 k) r }

  pub does : n ≡ 0 → (u : Tables) → u ≡ (rule_of q).effect q t → (b : ℕ) → b ≡ role_byte (role_opening t q) → Stepped t q u n b
  unfolding next_in role_told_in
  does z u e b r = record { tables = rw (said, eq-eqb n 0 z) e; answered = sym said; told = rw (said, eq-eqb n 0 z) r }

-- what is no openr and no openw tells none
pub opens_nothing : (t : Tables) (q : Request) → (q.call ≡ kind.openr → ⊥) → (q.call ≡ kind.openw → ⊥) → None ≡ role_opening t q
unfolding role_opening
opens_nothing t q r w = rw (ne_eqb q.call kind.openr r, ne_eqb q.call kind.openw w)

-- what the records of the roles tell for an accepted request is what it tells
pub opens_by : (t : Tables) → sound t ≡ true → (q : Request) → in_ranges q ≡ true → (p : Places) → Placed q p
    → (told : Option ℕ) → told ≡ opened_by t.roles q.call (session_at t p.seat).roles p.entity → told ≡ role_opening t q
unfolding role_opening
opens_by t ok q fits p near told h =
    h ∙ role_of t (formed_e t ok).role (formed_e t ok).ties p.seat q.call p.entity near.entity.small ∙ opening_same t t q.call _ _ _ _ reads writes
  where
    reads : q.call ≡ kind.openr → role_for t p.seat read p.entity ≡ role_for t q.seat read q.entity
    reads is = let (s, l) = in_openr q fits is in rw (near.seat.same s, near.entity.same l)

    writes : q.call ≡ kind.openw → role_for t p.seat write p.entity ≡ role_for t q.seat write q.entity
    writes is = let (s, l) = in_openw q fits is in rw (near.seat.same s, near.entity.same l)

-- ---- after i requests
pub record Held (t₀ : Tables) (rows old old_roles : List ℕ) (i : ℕ) (t : Tables) (said roles keys : List ℕ) : Type 0 where
  pub ran : t ≡ run t₀ (requests i rows)
  pub is_sound : sound t ≡ true
  pub answered : said ≡ answers t₀ (requests i rows) ++ drop i old
  pub told : roles ≡ map role_byte (roles_told t₀ (requests i rows)) ++ drop i old_roles
  pub by_keys : Keys t.entities keys

pub held_none : (t : Tables) (rows old old_roles keys : List ℕ) → sound t ≡ true → Keys t.entities keys → Held t rows old old_roles 0 t old old_roles keys
unfolding run_in each_in tabulate
held_none t rows old old_roles keys h K = record { ran = refl; is_sound = h; answered = refl; told = refl; by_keys = K }

module _ (t₀ : Tables) (rows old old_roles : List ℕ) (i : ℕ) (t : Tables) (said roles keys : List ℕ) (held : Held t₀ rows old old_roles i t said roles keys) where
  one_more : requests (i + 1) rows ≡ requests i rows ++ (request_at rows i ∷ [])
  unfolding tabulate
  one_more = rw add-one

  passed : {A : Type 0} (f : Tables → Request → A) → length (each f t₀ (requests i rows)) ≡ i
  passed f = length_each f t₀ (requests i rows) ∙ length_tabulate (request_at rows) i

  passed_roles : length (map role_byte (roles_told t₀ (requests i rows))) ≡ i
  passed_roles = length-map (roles_told t₀ (requests i rows)) role_byte ∙ passed role_told

  pub held_more : (q : Request) → q ≡ request_at rows i → i < length old → i < length old_roles → (u : Tables) (n b : ℕ) → Stepped t q u n b
      → (keys' : List ℕ) → Keys u.entities keys' → Held t₀ rows old old_roles (i + 1) u (set said i n) (set roles i b) keys'
  held_more q asked low low' u n b step keys' K =
      let after : u ≡ next t (request_at rows i) = step.tables ∙ ap (next t) asked in
      let number : n ≡ answer t (request_at rows i) = step.answered ∙ ap (answer t) asked in
      let role : b ≡ role_byte (role_told t (request_at rows i)) = step.told ∙ ap (λ (q : Request). role_byte (role_told t q)) asked in
      record {
        ran = after ∙ rw (one_more, run_snoc t₀ (requests i rows) (request_at rows i), ← held.ran);
        is_sound = rw after (sound_next t (request_at rows i) held.is_sound);
        answered = rw (held.answered, one_more, each_snoc answer t₀ (requests i rows) (request_at rows i), ← held.ran, number)
            (store_more (answers t₀ (requests i rows)) old i _ (passed answer) low);
        told = rw (held.told, one_more, each_snoc role_told t₀ (requests i rows) (request_at rows i), map-append, ← held.ran, role)
            (store_more (map role_byte (roles_told t₀ (requests i rows))) old_roles i _ passed_roles low');
        by_keys = K;
      }

  pub held_length : i ≤ length old → length said ≡ length old
  held_length low = ap length held.answered ∙ length-append (answers t₀ (requests i rows)) (drop i old) ∙ simp length-drop (omega (arith, passed answer))

  pub held_roles : i ≤ length old_roles → length roles ≡ length old_roles
  held_roles low =
      ap length held.told ∙ length-append (map role_byte (roles_told t₀ (requests i rows))) (drop i old_roles) ∙ simp length-drop (omega (arith, passed_roles))

  pub held_all : i ≡ batch_count rows old old_roles → RunsBatch t₀ rows old said old_roles roles t
  held_all e =
      record {
        tables = held.ran ∙ ap (λ (n : ℕ). run t₀ (requests n rows)) e;
        answered = held.answered ∙ ap (λ (n : ℕ). answers t₀ (requests n rows) ++ drop n old) e;
        told = held.told ∙ ap (λ (n : ℕ). map role_byte (roles_told t₀ (requests n rows)) ++ drop n old_roles) e;
      }

-- ---- of no request
pub no_batch : (t : Tables) (rows old old_roles : List ℕ) → 0 ≡ batch_count rows old old_roles → RunsBatch t rows old old old_roles old_roles t
unfolding tabulate run_in each_in
no_batch t rows old old_roles h = record { tables = rw (← h); answered = rw (← h); told = rw (← h) }

-- ---- on unsound tables
pub unsound_batch : (t : Tables) (rows old new old_roles new_roles : List ℕ) (n : ℕ) → sound t ≡ false → n ≡ batch_count rows old old_roles
    → new ≡ replicate n 1 ++ drop n old → new_roles ≡ replicate n 255 ++ drop n old_roles → RunsBatch t rows old new old_roles new_roles t
unsound_batch t rows old new old_roles new_roles n h e ones-are nones-are =
    let count = batch_count rows old old_roles in
    let (stays, ones, nones) = all_refused t (requests count rows) h in
    record {
      tables = sym stays;
      answered = ones-are ∙ rw (e, ones, length_tabulate (request_at rows) count);
      told = nones-are ∙ rw (e, nones, length_tabulate (request_at rows) count);
    }

-- ---- a batch of one request
role_back : (t : Tables) (q : Request) → read_byte (role_byte (role_told t q)) ≡ role_told t q
unfolding role_told_in role_opening role_for read_byte role_byte
role_back t q = go (eqb (answer t q) 0) (eqb q.call kind.openr) (eqb q.call kind.openw)
  where
    go : (a r w : Bool)
        → read_byte (role_byte (cond a (cond r (role_for t q.seat read q.entity) (cond w (role_for t q.seat write q.entity) None)) None))
        ≡ cond a (cond r (role_for t q.seat read q.entity) (cond w (role_for t q.seat write q.entity) None)) None
    go true true w = byte_read role_count _ (omega arith)
    go true false true = byte_read role_count _ (omega arith)
    go true false false = refl
    go false r w = refl

pub one_request : (t u : Tables) (q : Request) (rows old new old_roles new_roles : List ℕ) (o : ℕ) (r : Option ℕ) → rows ≡ row_of q → old ≡ 0 ∷ [] → old_roles ≡ 0 ∷ []
    → RunsBatch t rows old new old_roles new_roles u → o ≡ get_or new 0 0 → r ≡ read_byte (get_or new_roles 0 0)
    → ◌≡◌ {A = Outcome} (record { tables = u; answer = o; role = r }) (step t q)
unfolding shorter batch_length tabulate request_at run_in each_in step
one_request t u q rows old new old_roles new_roles o r row room space h first role =
    let after : u ≡ next t q = h.tables ∙ rw (row, room, space) in
    let number : new ≡ answer t q ∷ [] = h.answered ∙ rw (row, room, space) in
    let byte : new_roles ≡ role_byte (role_told t q) ∷ [] = h.told ∙ rw (row, room, space) in
    rw (after, first, number, role, byte, role_back t q)
