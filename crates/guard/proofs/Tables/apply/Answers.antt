-- `apply` stores what the rule does to the tables, and tells what openr and openw tell. Assumes nothing.
use Prim.Native.Nat.{◌≤◌}
use mathlib.Core.Path.{◌≡◌, refl, sym, ◌∙◌}
use mathlib.Core.Bool.{true}
use mathlib.Core.Logic.{⊎_elim}
use native.Mathlib.Omega.{arith}
use Rattle.std.specs.Prelude.{None}
use Rattle.guard.specs.Step.{role_opening}
use Rattle.guard.specs.Private.Inside.{OfEntity}
use Rattle.guard.specs.Private.InForce.{in_ranges}
use Rattle.guard.specs.Private.Apply.{Accepted}
use Rattle.guard.specs.declared.Tables.{Tables}
use Rattle.guard.specs.declared.Request.{Request}
use Rattle.guard.specs.declared.look.Places.{Places}
use Rattle.guard.specs.declared.change.Change.TheVariants.{Session as ASession, Entity as AnEntity, Role as ARole}
use Rattle.guard.proofs.Ranges.{in_create}
use Rattle.guard.proofs.Answers.{done_in_range}
use Rattle.guard.proofs.Stored.{told, session_stored, create_stored, delete_stored, alone_stored, role_stored, loss_stored, loses, no_loss}
use Rattle.guard.proofs.Turns.{opens_nothing, opens_by}
use Rattle.guard.proofs.Tables.apply.Goals as goal

fits : {t : Tables} {q : Request} {p : Places} → Accepted t q p → in_ranges q ≡ true
fits a = done_in_range _ _ a.zero

-- what changes an entity or a role tells none
entity_silent : (t : Tables) (q : Request) → OfEntity q.call → None ≡ role_opening t q
entity_silent t q of =
    opens_nothing _ _ (λ h. ⊎_elim (λ (l, m). omega arith) (λ e. omega arith) of) (λ h. ⊎_elim (λ (l, m). omega arith) (λ e. omega arith) of)

role_silent : (t : Tables) (q : Request) → 10 ≤ q.call → None ≡ role_opening t q
role_silent t q l = opens_nothing _ _ (λ h. omega arith) (λ h. omega arith)

-- ---- a session
pub after-requires : goal.after-requires
after-requires c = fits c.requires.accepted

pub returns-in-Session-clause-tables : goal.returns-in-Session-clause-tables
returns-in-Session-clause-tables c =
    let a = c.requires.accepted in
    session_stored _ _ a.zero _ a.near a.is_sound (told ASession _ _ c.change_of.ensures c.in-Session.is) _ c.after.ensures

pub returns-in-Session-clause-told : goal.returns-in-Session-clause-told
returns-in-Session-clause-told c =
    let a = c.requires.accepted in
    opens_by _ a.is_sound _ (fits a) _ a.near _ c.role_told.ensures

-- ---- an entity
pub after-stored-requires : goal.after-stored-requires
after-stored-requires c = (told AnEntity _ _ c.change_of.ensures c.in-Entity.is, fits c.requires.accepted)

pub owning-requires : goal.owning-requires
owning-requires c = (in_create _ (fits c.requires.accepted) c.if-q-eq-CREATE.true).entity

pub returns-then-q-eq-CREATE-clause-tables : goal.returns-then-q-eq-CREATE-clause-tables
returns-then-q-eq-CREATE-clause-tables c =
    let a = c.requires.accepted in
    create_stored _ _ a.zero _ a.near c.if-q-eq-CREATE.true _ _ c.after-stored.ensures c.owning.ensures

pub returns-then-q-eq-CREATE-clause-told : goal.returns-then-q-eq-CREATE-clause-told
returns-then-q-eq-CREATE-clause-told c = entity_silent _ _ (told AnEntity _ _ c.change_of.ensures c.in-Entity.is)

pub returns-then-q-eq-DELETE-clause-tables : goal.returns-then-q-eq-DELETE-clause-tables
returns-then-q-eq-DELETE-clause-tables c =
    let a = c.requires.accepted in
    rw (c.without_entity-self.ensures, c.without_entity-self-then-q-eq-DELETE.ensures)
    (delete_stored _ _ a.zero _ a.near c.if-q-eq-DELETE.true _ c.after-stored.ensures)

pub returns-then-q-eq-DELETE-clause-told : goal.returns-then-q-eq-DELETE-clause-told
returns-then-q-eq-DELETE-clause-told c = entity_silent _ _ (told AnEntity _ _ c.change_of.ensures c.in-Entity.is)

pub returns-else-q-eq-DELETE-clause-tables : goal.returns-else-q-eq-DELETE-clause-tables
returns-else-q-eq-DELETE-clause-tables c =
    let a = c.requires.accepted in
    alone_stored _ _ a.zero _ a.near (told AnEntity _ _ c.change_of.ensures c.in-Entity.is) c.if-q-eq-CREATE.false c.if-q-eq-DELETE.false _ c.after-stored.ensures

pub returns-else-q-eq-DELETE-clause-told : goal.returns-else-q-eq-DELETE-clause-told
returns-else-q-eq-DELETE-clause-told c = entity_silent _ _ (told AnEntity _ _ c.change_of.ensures c.in-Entity.is)

-- ---- a role
pub after-stored-requires-in-Role : goal.after-stored-requires-in-Role
after-stored-requires-in-Role c = fits c.requires.accepted

pub returns-then-ends_opens-clause-tables : goal.returns-then-ends_opens-clause-tables
returns-then-ends_opens-clause-tables c =
    let a = c.requires.accepted in
    rw c.sweep.ensures
    (loss_stored _ _ a.zero _ a.near a.is_sound _ c.after-stored-in-Role.ensures _ c.lost-lost.ensures (loses _ (sym c.ends_opens.ensures ∙ c.if-ends_opens.true)) _ refl)

pub returns-then-ends_opens-clause-told : goal.returns-then-ends_opens-clause-told
returns-then-ends_opens-clause-told c = role_silent _ _ (told ARole _ _ c.change_of.ensures c.in-Role.is).0

pub returns-else-ends_opens-clause-tables : goal.returns-else-ends_opens-clause-tables
returns-else-ends_opens-clause-tables c =
    let a = c.requires.accepted in
    role_stored _ _ a.zero _ a.near a.is_sound (told ARole _ _ c.change_of.ensures c.in-Role.is) (no_loss _ (sym c.ends_opens.ensures ∙ c.if-ends_opens.false)) _ c.after-stored-in-Role.ensures

pub returns-else-ends_opens-clause-told : goal.returns-else-ends_opens-clause-told
returns-else-ends_opens-clause-told c = role_silent _ _ (told ARole _ _ c.change_of.ensures c.in-Role.is).0
