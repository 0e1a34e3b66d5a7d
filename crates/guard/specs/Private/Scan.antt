-- The words in which the contracts of the scans are put: what 13, 14, 15 and 22 ask of the roles held and of the entities of a
-- level, over the records of the roles and a column of the entities: `keys`, for each its parent and its name in one number
-- (Tested.key_of). No public entry's contract cites them, so a buyer need not read them.
use Rattle.std.specs.Prelude.{Option, Some, None}
use Rattle.std.specs.Prelude.{ℕ, ◌+◌, ◌*◌, ◌/◌, ◌%◌, ◌<◌, ◌≡◌, Bool, true, false, not, cond, List, [], ◌∷◌, eqb, length, get_or}
use Rattle.std.specs.Int.Bits.{bit_and}
use Rattle.bitset.specs.Tests.{every, either, implies, all, some}
use Rattle.bitset.specs.Sets.{has, join, keeping}
use Rattle.guard.specs.Level.{role_count, role_level, entity_count, entities_per_level}
use Rattle.guard.specs.Below.{below, or_below}
use Rattle.guard.specs.Told.{lowest, role_byte}
use Rattle.guard.specs.Tables.{no_role, no_entity}
use Rattle.guard.specs.Edits.{opening, drop_role}
use Rattle.guard.specs.Chain.{climbs}
use Rattle.guard.specs.Private.Tested.{key_of, parent_by_key, members}
use Rattle.guard.specs.Private.Inside.{asks_way, asks_name, asks_rights}
use Rattle.guard.specs.Kind as kind
use Rattle.guard.specs.declared.Session.{Session}
use Rattle.guard.specs.declared.Role.{Role}
use Rattle.guard.specs.declared.Entity.{Entity}
use Rattle.guard.specs.declared.Request.{Request}
use Rattle.guard.specs.declared.scan.Right.{Right}
use Rattle.guard.specs.declared.scan.Right.TheVariants.{Read, Write, Execute, Own}
use Rattle.guard.specs.declared.scan.Rights.{Rights}
use Rattle.guard.specs.declared.scan.Found.{Found}

-- ---- the column of the entities
pub record Keys (entities : List Entity) (keys : List ℕ) : Type 0 where
  pub long : length keys ≡ entity_count
  pub at : (e : ℕ) → e < entity_count → get_or keys e 0 ≡ key_of (get_or entities e no_entity)

-- ---- the ties
-- b is a direct junior of a
abbrev pub tie_by : List Role → ℕ → ℕ → Bool
tie_by roles a b = has (get_or roles a no_role).juniors b

-- r is a direct junior of some role
unfoldable pub senior_by : List Role → ℕ → Bool
senior_by roles r = some role_count (λ k. tie_by roles k r)

-- j is one of the roles held, or below one
unfoldable pub met_by : List Role → ℕ → ℕ → Bool
met_by roles held j = some role_count (λ r. every (has held r ∷ or_below (tie_by roles) (eqb j) r ∷ []))

-- what 15 and 22 ask: unmake whether r has a junior or a senior, join whether r is j or below it
unfoldable pub tied_by : List Role → ℕ → ℕ → ℕ → Bool
tied_by roles call r j =
    cond (eqb call kind.unmake) (either (not (eqb (get_or roles r no_role).juniors 0)) (senior_by roles r))
    (cond (eqb call kind.join) (or_below (tie_by roles) (eqb r) j) false)

-- soundness: the ties of r join it to roles of its level among those that are live, and it is not below itself
unfoldable pub tie_test : List Role → ℕ → ℕ → Bool
tie_test roles live r =
    every
    (all role_count (λ j. implies (tie_by roles r j) (every (has live j ∷ eqb (role_level j) (role_level r) ∷ [])))
    ∷ not (below (tie_by roles) r r)
    ∷ [])

-- ---- the scans
-- the entities on which a role's record has the right
abbrev pub side : Role → Right → ℕ
side p Read = p.reads
side p Write = p.writes
side p Execute = p.executes
side p Own = p.owns

-- r has the right on e, itself or through a role below it
unfoldable pub has_by : List Role → Right → ℕ → ℕ → Bool
has_by roles right e = or_below (tie_by roles) (λ j. has (side (get_or roles j no_role) right) e)

-- .. and is one of the roles held
abbrev pub gives : List Role → ℕ → Right → ℕ → ℕ → Bool
gives roles held right e r = every (has held r ∷ has_by roles right e r ∷ [])

-- one of the roles held has the right on e
unfoldable pub given : List Role → ℕ → Right → ℕ → Bool
given roles held right e = some role_count (gives roles held right e)

-- of the rights gathered the set of one right
abbrev pub side_of : Rights → Right → ℕ
side_of g Read = g.reads
side_of g Write = g.writes
side_of g Execute = g.executes
side_of g Own = g.owns

-- which one an accepted request of that kind tells
unfoldable pub opened_by : List Role → ℕ → ℕ → ℕ → Option ℕ
opened_by roles call held e =
    cond (eqb call kind.openr) (lowest role_count (gives roles held Read e))
    (cond (eqb call kind.openw) (lowest role_count (gives roles held Write e)) None)

-- what a byte of a batch tells
unfoldable pub read_byte : ℕ → Option ℕ
read_byte b = cond (eqb b (role_byte None)) None (Some b)

pub record Gathered (roles : List Role) (held : ℕ) (g : Rights) : Type 0 where
  pub sets : (right : Right) (e : ℕ) → has (side_of g right) e ≡ given roles held right e
  pub met : (j : ℕ) → j < role_count → has g.roles j ≡ met_by roles held j

-- ---- what backs an open: one of the roles held gives the right
-- each open of s is backed
unfoldable pub opens_given : List Role → Session → Bool
opens_given roles s =
    every (members (given roles s.roles Read) s.reading ∷ members (given roles s.roles Write) s.writing ∷ [])

-- s with those of its opens that are backed
unfoldable pub backed_by : List Role → Session → Session
backed_by roles s =
    opening (keeping entity_count (given roles s.roles Read) s.reading) (keeping entity_count (given roles s.roles Write) s.writing) s

-- role p, which is no junior of its own juniors, has the right on e, itself or through them
abbrev pub has_with : List Role → Role → Right → ℕ → Bool
has_with roles p right e = either (has (side p right) e) (given roles p.juniors right e)

-- the entities on which a role lost read or write, where it was `old` and is `new`
pub record Lost (roles : List Role) (old new : Role) (lost : ℕ) : Type 0 where
  pub reads : (e : ℕ) → has_with roles old Read e ≡ true → has_with roles new Read e ≡ false → has lost e ≡ true
  pub writes : (e : ℕ) → has_with roles old Write e ≡ true → has_with roles new Write e ≡ false → has lost e ≡ true

-- s can lose an open where rights were lost on the entities of a set: it has one of them open
unfoldable pub concerned : ℕ → Session → Bool
concerned lost s = not (eqb (bit_and (join s.reading s.writing) lost) 0)

-- s then: where it can, those of its opens that are backed
unfoldable pub kept_by : List Role → ℕ → Session → Session
kept_by roles lost s = cond (concerned lost s) (backed_by roles s) s

-- .. and without role r, where it is unmade
unfoldable pub left_by : List Role → ℕ → ℕ → Bool → Session → Session
left_by roles r lost unmade s = cond unmade (drop_role r (kept_by roles lost s)) (kept_by roles lost s)

-- ---- the tree
-- the containers above e are all in the set
abbrev pub climbs_by : List ℕ → ℕ → ℕ → Bool
climbs_by keys through e = climbs (parent_by_key keys) (has through) entities_per_level e

unfoldable pub reached_by : List ℕ → ℕ → ℕ → ℕ → Bool
reached_by keys call e through = cond (asks_way call) (climbs_by keys through e) false

-- an entity of p's level has the key of a child of p with the name; has the parent p
unfoldable pub name_by : List ℕ → ℕ → ℕ → Bool
name_by keys p name = some entities_per_level (λ m. eqb (get_or keys (p / 16 * 16 + m) 0) (p * 65536 + name % 65536))

unfoldable pub child_by : List ℕ → ℕ → Bool
child_by keys p = some entities_per_level (λ m. eqb (get_or keys (p / 16 * 16 + m) 0 / 65536) p)

unfoldable pub kin_by : List ℕ → ℕ → ℕ → ℕ → ℕ → Bool
kin_by keys call e o name =
    cond (eqb call kind.delete) (child_by keys e) (cond (asks_name call) (name_by keys o name) false)

-- what a request asks of the tables, by a session that holds `held`
pub record FoundBy (keys : List ℕ) (roles : List Role) (q : Request) (held e o r j : ℕ) (f : Found) : Type 0 where
  pub rights : asks_rights q.call ≡ true → Gathered roles held f.rights
  pub reached : f.reached ≡ reached_by keys q.call e f.rights.executes
  pub kin : asks_rights q.call ≡ true → f.kin ≡ kin_by keys q.call e o q.name
  pub tied : asks_rights q.call ≡ false → f.kin ≡ tied_by roles q.call r j
