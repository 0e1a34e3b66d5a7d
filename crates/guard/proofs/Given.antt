-- The rights that the records of the roles give a session are those that it has, where a role has rights on no entity above its level
-- and ties join roles of one level.
--     in_set                        a right of a role's record is in its set
--     has_same                      what a role has, itself or through those below it
--     rights_of_lem                     the rights gathered over the roles held are those of the session
--     role_of                       the lowest role held that gives the right, by the records, is the one that the check tells
--     opens_right, backed_by_lem        the opens that the records back are those with the right behind them
-- Assumes nothing.
use Prim.Native.Nat.{ℕ, ◌<◌}
use mathlib.Core.Path.{◌≡◌, refl, sym, ap, ◌∙◌}
use mathlib.Core.Bool.{true}
use mathlib.Core.List.{List, [], ◌∷◌}
use lib.Dec.{leb}
use borrow.Author.Tests.{eqb-true}
use Rattle.bitset.specs.Tests.{every}
use Rattle.bitset.specs.Tests.Laws.{both, every_i, every_at, some_cong, all_i, all_e, implies_i, implies_e}
use Rattle.bitset.specs.Sets.{has, contains}
use Rattle.bitset.specs.Sets.Keeping.{keeping_cong}
use Rattle.guard.specs.Level.{role_level, entity_level}
use Rattle.guard.specs.Told.{lowest}
use Rattle.guard.specs.Tables.{session_at, role_at, read, write, execute, own, holds, rights_of, role_has, role_for, has_right}
use Rattle.guard.specs.Backed.{backed}
use Rattle.guard.specs.Private.Inside.{RightsOf}
use Rattle.guard.specs.Private.Scan.{side, tie_by, has_by, gives, given, opened_by, Gathered, opens_given, backed_by}
use Rattle.guard.specs.declared.Role.{Role}
use Rattle.guard.specs.declared.Tables.{Tables}
use Rattle.guard.specs.declared.scan.Right.{Right}
use Rattle.guard.specs.declared.scan.Right.TheVariants.{Read, Write, Execute, Own}
use Rattle.guard.specs.declared.scan.Rights.{Rights}
use Rattle.guard.proofs.Laws.Below.{itself, by, meets_e, meets_same}
use Rattle.guard.proofs.Laws.Juniors.{Has}
use Rattle.guard.proofs.Laws.Rights.{contains_read, contains_write, contains_execute, contains_own}
use Rattle.guard.proofs.Laws.Told.{lowest_cong, right_by_lem, Opening}
use Rattle.guard.proofs.Laws.Sound.{role_in, junior_in, has_in, RoleOk, TiesOk, BackedBy}

-- the right's number
abbrev pub number_of : Right → ℕ
number_of Read = read
number_of Write = write
number_of Execute = execute
number_of Own = own

pub in_set : (right : Right) (p : Role) (e : ℕ) → contains (rights_of p e) (number_of right) ≡ has (side p right) e
in_set Read = contains_read
in_set Write = contains_write
in_set Execute = contains_execute
in_set Own = contains_own

pub has_same : (roles : List Role) (right : Right) (e r : ℕ) → r < 16 → has_by roles right e r ≡ has_in roles (number_of right) e r
unfolding has_by
has_same roles right e r l =
    meets_same (tie_by roles) (junior_in roles) _ _ (λ a b c d. refl) (λ a c. sym (in_set right (role_in roles a) e)) r l

module _ (t : Tables) (role : (r : ℕ) → r < 16 → RoleOk t.entities r (role_at t r)) (ties : TiesOk t.roles) (x : ℕ) where
  -- a role has rights on no entity above its level
  within : (right : Right) (r e : ℕ) → r < 16 → e < 64 → has (side (role_at t r) right) e ≡ true → leb (entity_level e) (role_level r) ≡ true
  within Read r e b c m = every_at _ ((role r b).reads.members e c m) 1
  within Write r e b c m = every_at _ ((role r b).writes.members e c m) 1
  within Execute r e b c m = every_at _ ((role r b).executes.members e c m) 1
  within Own r e b c m = every_at _ ((role r b).owns.members e c m) 1

  module _ (right : Right) where
    -- also through the roles below it, which are of its level
    has_level : (e : ℕ) → e < 64 → (r : ℕ) → r < 16 → Has t.roles (number_of right) e r → leb (entity_level e) (role_level r) ≡ true
    has_level e l r b (itself g) = within right r e b l (sym (in_set right (role_at t r) e) ∙ g)
    has_level e l r b (by m c tie f) =
        ap (leb (entity_level e)) (sym (eqb-true _ _ (every_at _ (ties.joined r m b c tie) 2))) ∙ has_level e l m c f

    gives_right : (e : ℕ) → e < 64 → (r : ℕ) → r < 16
        → gives t.roles (session_at t x).roles right e r ≡ every (leb (entity_level e) (role_level r) ∷ holds t x r ∷ has_in t.roles (number_of right) e r ∷ [])
    gives_right e l r b = both _ _ forth back
      where
        forth : gives t.roles (session_at t x).roles right e r ≡ true → every (leb (entity_level e) (role_level r) ∷ holds t x r ∷ has_in t.roles (number_of right) e r ∷ []) ≡ true
        forth h =
            let it = sym (has_same t.roles right e r b) ∙ every_at _ h 1 in
            every_i _ (has_level e l r b (meets_e _ _ r it), (every_at _ h 0, (it, tt)))

        back : every (leb (entity_level e) (role_level r) ∷ holds t x r ∷ has_in t.roles (number_of right) e r ∷ []) ≡ true → gives t.roles (session_at t x).roles right e r ≡ true
        back h = every_i _ (every_at _ h 1, (has_same t.roles right e r b ∙ every_at _ h 2, tt))

    given_right : (e : ℕ) → e < 64 → given t.roles (session_at t x).roles right e ≡ has_right t x (number_of right) e
    unfolding given
    given_right e l = some_cong 16 _ _ (gives_right e l) ∙ sym (right_by_lem t x (number_of right) e)

    giver_right : (e : ℕ) → e < 64 → lowest 16 (gives t.roles (session_at t x).roles right e) ≡ role_for t x (number_of right) e
    unfolding role_for role_has
    giver_right e l = lowest_cong 16 _ _ (gives_right e l)

  pub rights_of_lem : (g : Rights) → Gathered t.roles (session_at t x).roles g → RightsOf t x g
  rights_of_lem g h =
      record {
        reads = λ e l. h.sets Read e ∙ given_right Read e l;
        writes = λ e l. h.sets Write e ∙ given_right Write e l;
        executes = λ e l. h.sets Execute e ∙ given_right Execute e l;
        owns = λ e l. h.sets Own e ∙ given_right Own e l;
      }

  -- the role that openr and openw tell
  pub role_of : (call e : ℕ) → e < 64 → opened_by t.roles call (session_at t x).roles e ≡ Opening t call x e
  unfolding opened_by
  role_of call e l = rw (giver_right Read e l, giver_right Write e l)

  -- ---- the opens
  pub opens_right : (opens_given t.roles (session_at t x) ≡ true → BackedBy t.roles (session_at t x))
      × (BackedBy t.roles (session_at t x) → opens_given t.roles (session_at t x) ≡ true)
  unfolding opens_given
  opens_right = (forth, back)
    where
      forth : opens_given t.roles (session_at t x) ≡ true → BackedBy t.roles (session_at t x)
      forth h =
          record {
            reading = λ e l m. sym (right_by_lem t x read e) ∙ sym (given_right Read e l) ∙ implies_e _ _ (all_e 64 _ (every_at _ h 0) e l) m;
            writing = λ e l m. sym (right_by_lem t x write e) ∙ sym (given_right Write e l) ∙ implies_e _ _ (all_e 64 _ (every_at _ h 1) e l) m;
          }

      back : BackedBy t.roles (session_at t x) → opens_given t.roles (session_at t x) ≡ true
      back ok =
          every_i _ (
            all_i 64 _ (λ e l. implies_i _ _ (λ m. given_right Read e l ∙ right_by_lem t x read e ∙ ok.reading e l m)),
            (all_i 64 _ (λ e l. implies_i _ _ (λ m. given_right Write e l ∙ right_by_lem t x write e ∙ ok.writing e l m)), tt),
          )

  pub backed_by_lem : backed_by t.roles (session_at t x) ≡ backed t x
  unfolding backed_by backed
  backed_by_lem = rw (keeping_cong _ _ (session_at t x).reading 64 (given_right Read), keeping_cong _ _ (session_at t x).writing 64 (given_right Write))
