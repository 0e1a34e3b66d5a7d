-- `run` is the log of its rows: each turn of the loop looks up what a request concerns, decides it and stores what it does. Assumes nothing.
use Rattle.std.specs.Prelude.{Option, Some, IfSome}
use Prim.Native.Nat.{ℕ, ◌+◌, ◌<◌}
use mathlib.Core.Path.{◌≡◌, refl, sym, ap, subst, ◌∙◌}
use mathlib.Core.Bool.{cond}
use mathlib.Core.List.{List}
use native.Mathlib.Omega.{arith}
use lib.Dec.{eqb}
use lib.ListN.{length, set}
use Rattle.guard.specs.Tables.{session_at, entity_at}
use Rattle.guard.specs.Requests.{rule_of}
use Rattle.guard.specs.Told.{role_byte}
use Rattle.guard.specs.Kind as kind
use Rattle.guard.specs.Batch.{batch_count, request_at}
use Rattle.guard.specs.Private.Inside.{number, Placed, Seen}
use Rattle.guard.specs.Private.Scan.{Keys, FoundBy}
use Rattle.guard.specs.declared.Tables.{Tables}
use Rattle.guard.specs.declared.Request.{Request}
use Rattle.guard.specs.declared.look.Places.{Places}
use Rattle.guard.specs.declared.scan.Found.{Found}
use Rattle.guard.specs.declared.view.View.{View}
use Rattle.guard.proofs.Logs.{batch_room, batch_space, batch_rows}
use Rattle.guard.proofs.Seen.{view_at, parent_in, seen_of}
use Rattle.guard.proofs.Turns.{Held, held_none, held_more, held_length, held_roles, no_batch, unsound_batch, Stepped, refuses, does}
use Rattle.guard.proofs.Tables.run.Goals.{then-n-eq0, else-n-eq0}
use Rattle.guard.proofs.Tables.run.Goals as goal

-- ---- one turn of the loop, once its request is decided: what held before it, the request, where its records stand, and its answer
record Turn (t₀ t : Tables) (rows old old_roles said roles keys : List ℕ) (i n : ℕ) (q : Request) (p : Places) (a : ℕ) : Type 0 where
  pub held : Held t₀ rows old old_roles i t said roles keys
  pub asked : q ≡ request_at rows i
  pub near : Placed q p
  pub decided : a ≡ number (rule_of q) t q

-- the batch has room for its answers and for its roles
module _ {t₀ t : Tables} {rows old old_roles said roles keys : List ℕ} {i n : ℕ} (held : Held t₀ rows old old_roles i t said roles keys)
    (on : i < n) (all : n ≡ batch_count rows old old_roles)
  where
    within : i < length old
    within = omega (arith, on, all, batch_room (length rows) (length old) (length old_roles))

    within_roles : i < length old_roles
    within_roles = omega (arith, on, all, batch_space (length rows) (length old) (length old_roles))

    room : i < length said
    room = rw (held_length _ _ _ _ _ _ _ _ _ held (omega (arith, within))) within

    space : i < length roles
    space = rw (held_roles _ _ _ _ _ _ _ _ _ held (omega (arith, within_roles))) within_roles

    -- the decision, and its number
    turn_of : {q : Request} {p : Places} {o d a : ℕ} {f : Found} {v : View} → q ≡ request_at rows i → Placed q p
        → o ≡ cond (eqb q.call kind.create) p.parent (entity_at t p.entity).parent
        → FoundBy keys t.roles q (session_at t p.seat).roles p.entity o p.role p.junior f → v ≡ view_at t p o f
        → ((s : Tables) → Seen s q v → d ≡ number (rule_of q) s q) → a ≡ d → Turn t₀ t rows old old_roles said roles keys i n q p a
    turn_of asked near above found seen says numbered = record {
      held = held;
      asked = asked;
      near = near;
      decided = numbered ∙ says _ (seen_of _ held.is_sound _ _ near _ above _ held.by_keys _ found _ seen);
    }

    -- the next turn holds, by what the tables and the keys are then
    turned : {q : Request} {a : ℕ} → q ≡ request_at rows i → (u : Tables) (b : ℕ) → Stepped t q u a b
        → (k : List ℕ) → Keys u.entities k → (n ≡ batch_count rows old old_roles) × Held t₀ rows old old_roles (i + 1) u (set said i a) (set roles i b) k
    turned asked u b step k K = (all, held_more _ _ _ _ _ _ _ _ _ held _ asked within within_roles u _ _ step k K)

-- the places of a request that is in its ranges
placed_in : {q : Request} {r : Option Places} {p : Places} → IfSome r (Placed q) → r ≡ Some p → Placed q p
placed_in {q = q} h e = subst (λ x. IfSome x (Placed q)) e h

-- ---- before the first turn
pub returns-then-count-eq0 : goal.returns-then-count-eq0
returns-then-count-eq0 c = no_batch _ _ _ _ (sym c.if-count-eq0.true ∙ c.count-count.ensures)

pub fill-requires : goal.fill-requires
fill-requires c = omega (arith, c.count-count.ensures, batch_room (length c.args.rows.now) (length c.args.answers.now) (length c.args.roles.now))

pub fill-requires-then-not-sound_by : goal.fill-requires-then-not-sound_by
fill-requires-then-not-sound_by c = omega (arith, c.count-count.ensures, batch_space (length c.args.rows.now) (length c.args.answers.now) (length c.args.roles.now))

pub returns-then-not-sound_by : goal.returns-then-not-sound_by
returns-then-not-sound_by c =
    unsound_batch _ _ _ _ _ _ _ (sym c.sound_by.ensures ∙ c.if-not-sound_by.true) c.count-count.ensures c.fill.ensures.1 c.fill-then-not-sound_by.ensures.1

pub loop-i-init : goal.loop-i-init
loop-i-init c =
    (c.count-count.ensures, held_none _ _ _ _ _ (sym c.sound_by.ensures ∙ c.if-not-sound_by.false) c.keys-keys.ensures)

-- ---- in a turn
pub request-q-requires : goal.request-q-requires
request-q-requires c = batch_rows _ _ _ _ (rw c.loop-i.invariant.0 at c.loop-i-test.true)

pub offset_bounds-self-o : goal.offset_bounds-self-o
offset_bounds-self-o c =
    omega (arith, parent_in _ c.loop-i.invariant.1.is_sound _ _ (placed_in c.look_up.ensures.some c.in-Some.is) _ c.parent_of-o.ensures)

pub bounds-self-o : goal.bounds-self-o
bounds-self-o c = parent_in _ c.loop-i.invariant.1.is_sound _ _ (placed_in c.look_up.ensures.some c.in-Some.is) _ c.parent_of-o.ensures

pub find-found-requires : goal.find-found-requires
find-found-requires c =
    let at = placed_in c.look_up.ensures.some c.in-Some.is in
    (at.entity.small, parent_in _ c.loop-i.invariant.1.is_sound _ _ at _ c.parent_of-o.ensures, at.role.small, at.junior.small)

pub bounds-answers-i : goal.bounds-answers-i
bounds-answers-i c = room c.loop-i.invariant.1 c.loop-i-test.true c.loop-i.invariant.0

pub bounds-roles-i : goal.bounds-roles-i
bounds-roles-i c = space c.loop-i.invariant.1 c.loop-i-test.true c.loop-i.invariant.0

pub bounds-answers-i-in-loop-i : goal.bounds-answers-i-in-loop-i
bounds-answers-i-in-loop-i c = room c.loop-i.invariant.1 c.loop-i-test.true c.loop-i.invariant.0

pub bounds-roles-i-in-loop-i : goal.bounds-roles-i-in-loop-i
bounds-roles-i-in-loop-i c = space c.loop-i.invariant.1 c.loop-i-test.true c.loop-i.invariant.0

pub loop-i-preserved-in_default : goal.loop-i-preserved-in_default
loop-i-preserved-in_default c =
    let held = c.loop-i.invariant.1 in
    turned held c.loop-i-test.true c.loop-i.invariant.0 c.request-q.ensures _ _
    (refuses _ _ _ held.is_sound (sym (c.in_default.ensures.refused refl _)) (λ e. omega arith) _ c.byte.ensures) _ held.by_keys

pub apply-told-requires : goal.apply-told-requires
apply-told-requires c =
    let turn = turn_of c.loop-i.invariant.1 c.loop-i-test.true c.loop-i.invariant.0 c.request-q.ensures (placed_in c.look_up.ensures.some c.in-Some.is) c.parent_of-o.ensures c.find-found.ensures refl c.judge.ensures c.answer-n.ensures in
    record { accepted = record { is_sound = turn.held.is_sound; near = turn.near; zero = sym c.if-n-eq0.true ∙ turn.decided }; keys = turn.held.by_keys }

pub loop-i-preserved : goal.loop-i-preserved
loop-i-preserved c =
    let held = c.loop-i.invariant.1 in
    let on = c.loop-i-test.true in
    let all = c.loop-i.invariant.0 in
    let turn = turn_of held on all c.request-q.ensures (placed_in c.look_up.ensures.some c.in-Some.is) c.parent_of-o.ensures c.find-found.ensures refl c.judge.ensures c.answer-n.ensures in
    elim c.if-n-eq0.branch [
      | then-n-eq0 w ↦
          rw (w.self-is, w.keys-is)
          (turned held on all turn.asked _ _ (does _ _ _ held.is_sound turn.decided w.if-n-eq0.true _ w.apply-told.ensures.tables _ (c.byte-in-loop-i.ensures ∙ ap role_byte (w.told-is ∙ w.apply-told.ensures.told))) _ w.apply-told.ensures.keys)
      | else-n-eq0 w ↦
          rw (w.self-is, w.keys-is)
          (turned held on all turn.asked _ _ (refuses _ _ _ held.is_sound turn.decided w.if-n-eq0.false _ (c.byte-in-loop-i.ensures ∙ ap role_byte w.told-is)) _ held.by_keys)
    ]
