-- A dropped role ends its opens, and so does an untied junior.
use Rattle.std.specs.Prelude.{ℕ}
use Rattle.bitset.specs.Sets.{keeping}
use Rattle.guard.specs.Level.{session_count, entity_count}
use Rattle.guard.specs.Tables.{session_at, read, write, has_right}
use Rattle.guard.specs.Edits.{with_sessions, opening}
use Rattle.guard.specs.Fresh.{tabulate}
use Rattle.guard.specs.declared.Session.{Session}
use Rattle.guard.specs.declared.Tables.{Tables}

-- session x with the opens that are backed: for reading those on which it has the read right, for writing those on which it has the
-- write right
unfoldable pub backed : Tables → ℕ → Session
backed t x =
    let s = session_at t x in
    opening (keeping entity_count (has_right t x read) s.reading) (keeping entity_count (has_right t x write) s.writing) s

-- After drop, revoke and unmake, every seat loses each open for which it no longer has the read or write right. Reaching the entity is
-- not looked at again. Unjoin ends opens in the same way.
unfoldable pub end_unbacked : Tables → Tables
end_unbacked t = with_sessions t (tabulate session_count (backed t))
