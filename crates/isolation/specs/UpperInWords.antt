-- The upper part for a level L, in the paper's words. `upper` (Upper) cuts lists and sets off at L and compares them by
-- one equation; here the same stands sentence by sentence. That the two say the same is `upper_iff` (proofs/OneRequest/UpperInWords).
use Rattle.std.specs.Prelude.{ℕ, ◌≤◌, ◌≡◌, length}
use Rattle.guard.specs.Level.{session_count, role_count, entity_count, session_level, role_level, entity_level}
use Rattle.guard.specs.Tables.{session_at, role_at, entity_at, holds, is_reading, is_writing, lists, is_junior, rights_on}
use Rattle.guard.specs.declared.Tables.{Tables}

-- The tables hold .. sixteen seats, sixteen roles and sixty-four entities. (In the program by their types; in a theorem a list has
-- any length. Sound tables are of this size: `sized`.)
pub record Sized (t : Tables) : Type 0 where
  pub sessions : length t.sessions ≡ session_count
  pub roles : length t.roles ≡ role_count
  pub entities : length t.entities ≡ entity_count

-- The upper parts of t and u for L are equal. (Numbers need no bound: past the last one the records are empty on both sides, and no
-- set of sound tables has such a member.)
pub record SameUpper (L : ℕ) (t u : Tables) : Type 0 where
  -- The upper part holds all users;
  pub users : t.users ≡ u.users
  -- the live mark, user and label of seats of level L and above;
  pub seat_live : (s : ℕ) → L ≤ session_level s → (session_at t s).live ≡ (session_at u s).live
  pub seat_user : (s : ℕ) → L ≤ session_level s → (session_at t s).user ≡ (session_at u s).user
  pub seat_label : (s : ℕ) → L ≤ session_level s → (session_at t s).label ≡ (session_at u s).label
  -- of what those seats hold or have open, the roles and entities of level L and above;
  pub held : (s r : ℕ) → L ≤ session_level s → L ≤ role_level r → holds t s r ≡ holds u s r
  pub reading : (s e : ℕ) → L ≤ session_level s → L ≤ entity_level e → is_reading t s e ≡ is_reading u s e
  pub writing : (s e : ℕ) → L ≤ session_level s → L ≤ entity_level e → is_writing t s e ≡ is_writing u s e
  -- the live mark and list of roles of level L and above, and their rights on entities of level L and above;
  pub role_live : (r : ℕ) → L ≤ role_level r → (role_at t r).live ≡ (role_at u r).live
  pub listed : (r n : ℕ) → L ≤ role_level r → lists t r n ≡ lists u r n
  pub rights : (r e : ℕ) → L ≤ role_level r → L ≤ entity_level e → rights_on t r e ≡ rights_on u r e
  -- the whole record of entities of level L and above. The mark belongs to the upper part with its entity.
  pub entity : (e : ℕ) → L ≤ entity_level e → entity_at t e ≡ entity_at u e
  -- Ties among upper roles join the upper part.
  pub tied : (r j : ℕ) → L ≤ role_level r → L ≤ role_level j → is_junior t r j ≡ is_junior u r j
  -- The edition joins the upper part.
  pub edition : t.edition ≡ u.edition
