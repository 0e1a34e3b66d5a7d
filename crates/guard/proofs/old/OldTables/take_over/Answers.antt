-- `OldTables::take_over` takes over list by list (Taking). Assumes nothing.
use mathlib.Core.Bool.{false}
use borrow.Author.Rules.{rules}
use Rattle.guard.specs.Old.{taken_over, user_taken, session_taken, role_taken, entity_taken}
use Rattle.guard.specs.declared.old.OldLabel.{OldLabel}
use Rattle.guard.specs.declared.old.OldUser.{OldUser}
use Rattle.guard.specs.declared.old.OldSession.{OldSession}
use Rattle.guard.specs.declared.old.OldRole.{OldRole}
use Rattle.guard.specs.declared.old.OldEntity.{OldEntity}
use Rattle.guard.proofs.Taking.{taken}
use Rattle.guard.proofs.old.OldTables.take_over.Goals as goal

-- what stands past the end of a list
abbrev no_label : OldLabel
no_label = record { cats = 0; grade = 0 }

abbrev no_user : OldUser
no_user = record { ceiling = 0; clearance = no_label }

abbrev no_session : OldSession
no_session = record { live = false; user = 0; label = no_label; roles = 0; reading = 0; writing = 0 }

abbrev no_role : OldRole
no_role = record { live = false; users = 0; reads = 0; writes = 0; executes = 0; owns = 0 }

abbrev no_entity : OldEntity
no_entity = record { live = false; kind = 0; parent = 0; name = 0; label = no_label }

pub returns : goal.returns
unfolding taken_over
returns c =
    let old = c.args.self in
    let users = taken _ user_taken _ old.users _ no_user 16 (search (rules, c.well_formed)) (λ i y q k. (search (rules, k), search (rules, k))) c.from_fn.ensures.items in
    let sessions = taken _ session_taken _ old.sessions _ no_session 16 (search (rules, c.well_formed)) (λ i y q k. (search (rules, k), search (rules, k))) c.from_fn-2.ensures.items in
    let roles = taken _ role_taken _ old.roles _ no_role 16 (search (rules, c.well_formed)) (λ i y q k. (search (rules, k), search (rules, k))) c.from_fn-3.ensures.items in
    let entities = taken _ entity_taken _ old.entities _ no_entity 64 (search (rules, c.well_formed)) (λ i y q k. (search (rules, k), search (rules, k))) c.from_fn-4.ensures.items in
    rw (users, sessions, roles, entities)
