-- What the store of an accepted request rests on. No public entry's contract cites it, so a buyer need not read it.
use Rattle.std.specs.Prelude.{◌≡◌, true}
use Rattle.guard.specs.Sound.{sound}
use Rattle.guard.specs.Requests.{rule_of}
use Rattle.guard.specs.Private.Inside.{number, Placed}
use Rattle.guard.specs.declared.Tables.{Tables}
use Rattle.guard.specs.declared.Request.{Request}
use Rattle.guard.specs.declared.look.Places.{Places}

-- sound tables t, on which q is answered 0, and the places p of the records that q concerns
pub record Accepted (t : Tables) (q : Request) (p : Places) : Type 0 where
  pub is_sound : sound t ≡ true
  pub near : Placed q p
  pub zero : 0 ≡ number (rule_of q) t q
