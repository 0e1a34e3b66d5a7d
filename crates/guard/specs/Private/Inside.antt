-- The words in which the contracts of private functions are put. No public entry's contract cites them, so a buyer need
-- not read them.
use Rattle.std.specs.Prelude.{ℕ, ◌≤◌, ◌<◌, ◌≡◌, Bool, true, false, not, cond, [], ◌∷◌, map, ◌⊎◌, leb, eqb, get_or}
use Rattle.bitset.specs.Tests.{every, either}
use Rattle.bitset.specs.Sets.{has, contains, with, without}
use Rattle.guard.specs.Level.{user_count, session_count, role_count, entity_count, is_root}
use Rattle.guard.specs.Tables.{no_session, no_role, no_entity, user_at, session_at, role_at, entity_at, has_right, read, write, execute, own}
use Rattle.guard.specs.Chain.{reaches}
use Rattle.guard.specs.Sound.{top_name}
use Rattle.guard.specs.Edits.{take_role, drop_role, open_reading, open_writing, close_both, put_in, rename_to, mark_as}
use Rattle.guard.specs.Refusals.{◌when◌, first}
use Rattle.guard.specs.Conditions.{name_taken, has_children, role_tied, closes_cycle, recorded_parent}
use Rattle.guard.specs.Requests.{Rule, logged_in, created}
use Rattle.guard.specs.Kind as kind
use Rattle.guard.specs.Private.InForce.{field_in_range}
use Rattle.guard.specs.declared.Session.{Session}
use Rattle.guard.specs.declared.Role.{Role}
use Rattle.guard.specs.declared.Entity.{Entity}
use Rattle.guard.specs.declared.Tables.{Tables}
use Rattle.guard.specs.declared.Request.{Request}
use Rattle.guard.specs.declared.look.Places.{Places}
use Rattle.guard.specs.declared.change.Change.{Change}
use Rattle.guard.specs.declared.change.Change.TheVariants.{Session as ASession, Entity as AnEntity, Role as ARole}
use Rattle.guard.specs.declared.scan.Rights.{Rights}
use Rattle.guard.specs.declared.view.View.{View}

-- the answer of a rule on sound tables
unfoldable pub number : Rule → Tables → Request → ℕ
number rule t q = first (2 when not (every (map (field_in_range q) rule.uses)) ∷ rule.refusals t q)

-- ---- the numbers of a request, looked up
-- a number for an index: itself below the end, and some number below it otherwise
pub record Below (end n i : ℕ) : Type 0 where
  pub small : i < end
  pub same : n < end → i ≡ n

pub record Placed (q : Request) (p : Places) : Type 0 where
  pub seat : Below session_count q.seat p.seat
  pub user : Below user_count q.user p.user
  pub role : Below role_count q.role p.role
  pub entity : Below entity_count q.entity p.entity
  pub parent : Below entity_count q.parent p.parent
  pub junior : Below role_count q.junior p.junior

-- ---- what a kind asks of the tables beside the records that it concerns
-- openr and openw ask for the way up
unfoldable pub asks_way : ℕ → Bool
asks_way call = either (eqb call kind.openr) (eqb call kind.openw)

-- create and rename ask for a name among the children, delete for a child
unfoldable pub asks_name : ℕ → Bool
asks_name call = either (eqb call kind.create) (eqb call kind.rename)

-- these, grant, revoke and share ask for rights
unfoldable pub asks_rights : ℕ → Bool
asks_rights call =
    either (asks_way call)
    (either (asks_name call)
    (either (eqb call kind.delete) (either (eqb call kind.grant) (either (eqb call kind.revoke) (eqb call kind.share)))))

-- ---- what a request looks at: v holds the records that q concerns, and of what q asks of the tables the answers
-- the entities on which session x has each right
pub record RightsOf (t : Tables) (x : ℕ) (g : Rights) : Type 0 where
  pub reads : (e : ℕ) → e < entity_count → has g.reads e ≡ has_right t x read e
  pub writes : (e : ℕ) → e < entity_count → has g.writes e ≡ has_right t x write e
  pub executes : (e : ℕ) → e < entity_count → has g.executes e ≡ has_right t x execute e
  pub owns : (e : ℕ) → e < entity_count → has g.owns e ≡ has_right t x own e

pub record Seen (t : Tables) (q : Request) (v : View) : Type 0 where
  pub edition : v.edition ≡ t.edition
  pub session : q.seat < session_count → v.session ≡ session_at t q.seat
  pub user : q.user < user_count → v.user ≡ user_at t q.user
  pub live : q.role < role_count → v.live ≡ (role_at t q.role).live
  pub users : q.role < role_count → v.users ≡ (role_at t q.role).users
  pub juniors : q.role < role_count → v.juniors ≡ (role_at t q.role).juniors
  pub alive : q.junior < role_count → v.alive ≡ (role_at t q.junior).live
  pub entity : q.entity < entity_count → v.entity ≡ entity_at t q.entity
  pub inside : q.entity < entity_count → (entity_at t q.entity).parent < entity_count
  pub parent : q.call ≡ kind.create → q.parent < entity_count → v.parent ≡ entity_at t q.parent
  pub outer : eqb q.call kind.create ≡ false → q.entity < entity_count → v.parent ≡ entity_at t (recorded_parent t q)
  pub rights : asks_rights q.call ≡ true → q.seat < session_count → RightsOf t q.seat v.found.rights
  pub reached : asks_way q.call ≡ true → q.seat < session_count → q.entity < entity_count → v.found.reached ≡ reaches t q.seat q.entity
  pub created : q.call ≡ kind.create → q.parent < entity_count → 1 ≤ q.name → q.name ≤ top_name → v.found.kin ≡ name_taken t q q.parent
  pub renamed : q.call ≡ kind.rename → q.entity < entity_count → 1 ≤ q.name → q.name ≤ top_name
      → v.found.kin ≡ name_taken t q (recorded_parent t q)
  pub deleted : q.call ≡ kind.delete → q.entity < entity_count → is_root q.entity ≡ false → v.found.kin ≡ has_children t q
  pub unmade : q.call ≡ kind.unmake → q.role < role_count → v.found.kin ≡ role_tied t q
  pub joined : q.call ≡ kind.join → q.role < role_count → q.junior < role_count → v.found.kin ≡ closes_cycle t q
  pub untied : q.call ≡ kind.unjoin → v.found.kin ≡ false

-- ---- what is stored where the answer is 0
-- which records a kind changes: a session; an entity, with a role (create) or every role and session (delete); a role, with
-- every session (revoke, unmake, unjoin)
unfoldable pub change_of : ℕ → Change
change_of call =
    cond (leb call kind.close) ASession (cond (either (leb call kind.rename) (eqb call kind.share)) AnEntity ARole)

-- the kinds that change an entity
abbrev pub OfEntity : ℕ → Type 0
OfEntity call = ((kind.create ≤ call) × (call ≤ kind.rename)) ⊎ (call ≡ kind.share)

-- the requests on a role after which opens end that are no longer backed
unfoldable pub ends_opens : ℕ → Bool
ends_opens call = either (either (eqb call kind.revoke) (eqb call kind.unmake)) (eqb call kind.unjoin)

-- the acting session s after a request of the first seven kinds; `keep` is what a drop leaves of its opens
unfoldable pub session_after : (Session → Session) → Request → Session → Session
session_after keep q s =
    get_or
    (logged_in q
    ∷ no_session
    ∷ take_role q.role s
    ∷ keep (drop_role q.role s)
    ∷ open_reading q.entity s
    ∷ open_writing q.entity s
    ∷ [])
    q.call (close_both q.entity s)

-- the entity f after create, delete, share or rename
unfoldable pub entity_after : Request → Entity → Entity
entity_after q f =
    cond (eqb q.call kind.create) (created q)
    (cond (eqb q.call kind.delete) no_entity (cond (eqb q.call kind.share) (mark_as q.shared f) (rename_to q.name f)))

-- the entities of one right after grant or revoke, where it is named
unfoldable pub set_after : Bool → Bool → ℕ → ℕ → ℕ
set_after given named e s = cond named (put_in given e s) s

-- the role p after grant or revoke of the rights named
unfoldable pub granted_after : Bool → ℕ → ℕ → Role → Role
granted_after given named e p =
    record {
      live = p.live;
      users = p.users;
      juniors = p.juniors;
      reads = set_after given (contains named read) e p.reads;
      writes = set_after given (contains named write) e p.writes;
      executes = set_after given (contains named execute) e p.executes;
      owns = set_after given (contains named own) e p.owns;
    }

-- the users that a role lists after list, unlist or make
unfoldable pub users_after : Request → ℕ → ℕ
users_after q users =
    cond (eqb q.call kind.list) (with users q.user) (cond (eqb q.call kind.unlist) (without users q.user) users)

-- the juniors of a role after join or unjoin
unfoldable pub juniors_after : Request → ℕ → ℕ
juniors_after q juniors =
    cond (eqb q.call kind.join) (with juniors q.junior) (cond (eqb q.call kind.unjoin) (without juniors q.junior) juniors)

-- the role p after grant, revoke, unmake, list, unlist, make, join or unjoin
unfoldable pub role_after : Request → Role → Role
role_after q p =
    cond (eqb q.call kind.grant) (granted_after true q.rights q.entity p)
    (cond (eqb q.call kind.revoke) (granted_after false q.rights q.entity p)
    (cond (eqb q.call kind.unmake) no_role
    (record {
      live = true;
      users = users_after q p.users;
      juniors = juniors_after q p.juniors;
      reads = p.reads;
      writes = p.writes;
      executes = p.executes;
      owns = p.owns;
    })))

-- the role p with own on e
abbrev pub owning : ℕ → Role → Role
owning e p =
    record { live = p.live; users = p.users; juniors = p.juniors; reads = p.reads; writes = p.writes; executes = p.executes; owns = with p.owns e }
