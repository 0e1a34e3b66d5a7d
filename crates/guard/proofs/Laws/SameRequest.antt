-- Requests that ask the same.
--     Reads, each_reads           each rule: its refusals and its effect read no other fields than those that it uses
--     same_answer, same_next, same_role      two requests that ask the same have one answer, leave one next tables and tell one role
--     same_rule, same_fields, same_seat, map_same      they have one rule and one seat, and agree in each field that it uses
--     unused_fields               "Fields that a request does not use are not looked at": they have one step, from every tables
--     same_refl, same_refls       a request asks the same as itself, and so does a log
-- Assumes nothing.
use Prim.Native.Nat.{ℕ}
use mathlib.Core.Path.{◌≡◌, refl, sym, ap₂}
use mathlib.Core.Bool.{Bool, true}
use mathlib.Core.List.{List, [], ◌∷◌, map}
use lib.Dec.{eqb}
use borrow.Author.Tests.{eqb-true, eq-eqb}
use Rattle.bitset.specs.Tests.Laws as tests
use Rattle.bitset.specs.Tests.Laws.{every_i, every_e, every_at}
use Rattle.guard.specs.Label.{same_label}
use Rattle.guard.specs.Conditions.{user_too_low, create_out_of_level, grant_below, tie_out_of_level, closes_cycle, cannot_open, cannot_change_in, cannot_change, not_open, name_taken, has_children, role_tied}
use Rattle.guard.specs.Requests.{Rule, Field, call, seat, user, role, entity, parent, kind, name, label, rights, shared, junior, field_in_range_in, logged_in, created, login, logout, take, drop, openr, openw, close, create, delete, rename, grant, revoke, list, unlist, make, unmake, share, join, unjoin, unknown, rules, rule_of}
use Rattle.guard.specs.Step.{in_ranges_in, answer, answer_in, next, next_in, role_opening, role_told, role_told_in, step}
use Rattle.guard.specs.Kind as kinds
use Rattle.guard.specs.SameRequest.{same_field, same_request, same_requests}
use Rattle.guard.specs.Private.InForce.{field_in_range}
use Rattle.guard.specs.declared.Tables.{Tables}
use Rattle.guard.specs.declared.Request.{Request}
use Rattle.guard.proofs.Laws.Told.{opening_same}
use Rattle.guard.proofs.Laws.Step.{Each, each_rule}

-- ---- the fields, as equations
abbrev pub SameField : Request → Request → Field → Type 0
SameField p q call = p.call ≡ q.call
SameField p q seat = p.seat ≡ q.seat
SameField p q user = p.user ≡ q.user
SameField p q role = p.role ≡ q.role
SameField p q entity = p.entity ≡ q.entity
SameField p q parent = p.parent ≡ q.parent
SameField p q kind = p.kind ≡ q.kind
SameField p q name = p.name ≡ q.name
SameField p q label = (p.grade ≡ q.grade) × (p.cats ≡ q.cats)
SameField p q rights = p.rights ≡ q.rights
SameField p q shared = p.shared ≡ q.shared
SameField p q junior = p.junior ≡ q.junior

abbrev pub SameFields : Request → Request → List Field → Type 0
SameFields p q [] = Unit {0}
SameFields p q (f ∷ fs) = SameField p q f × SameFields p q fs

module _ (p q : Request) where
  field_e : (f : Field) → same_field p q f ≡ true → SameField p q f
  unfolding same_field same_label
  field_e call h = eqb-true _ _ h
  field_e seat h = eqb-true _ _ h
  field_e user h = eqb-true _ _ h
  field_e role h = eqb-true _ _ h
  field_e entity h = eqb-true _ _ h
  field_e parent h = eqb-true _ _ h
  field_e kind h = eqb-true _ _ h
  field_e name h = eqb-true _ _ h
  field_e label h = (eqb-true _ _ (every_at _ h 0), eqb-true _ _ (every_at _ h 1))
  field_e rights h = eqb-true _ _ h
  field_e shared h = eqb-true _ _ h
  field_e junior h = eqb-true _ _ h

  fields_e : (fs : List Field) → tests.Each (map (same_field p q) fs) → SameFields p q fs
  fields_e [] h = tt
  fields_e (f ∷ fs) h = (field_e f h.0, fields_e fs h.1)

  range_same : (f : Field) → SameField p q f → field_in_range p f ≡ field_in_range q f
  unfolding field_in_range_in
  range_same call e = rw e
  range_same seat e = rw e
  range_same user e = rw e
  range_same role e = rw e
  range_same entity e = rw e
  range_same parent e = rw e
  range_same kind e = rw e
  range_same name e = rw e
  range_same label (g, c) = rw (g, c)
  range_same rights e = rw e
  range_same shared e = rw e
  range_same junior e = rw e

  -- a test of each field
  pub map_same : (of_p of_q : Field → Bool) → ((f : Field) → SameField p q f → of_p f ≡ of_q f) → (fs : List Field) → SameFields p q fs
      → map of_p fs ≡ map of_q fs
  map_same of_p of_q same [] e = refl
  map_same of_p of_q same (f ∷ fs) (here, more) = ap₂ ◌∷◌ (same f here) (map_same of_p of_q same fs more)

-- ---- each rule: it uses the acting seat, and its refusals and its effect read no other field than those that it uses
abbrev Reads : Rule → Type 0
Reads r =
    (p q : Request) → SameFields p q r.uses
    → (p.seat ≡ q.seat) × ((t : Tables) → r.refusals t p ≡ r.refusals t q) × ((t : Tables) → r.effect p t ≡ r.effect q t)

reads_login : Reads login
unfolding login logged_in user_too_low
reads_login p q (s, (u, ((g, c), more))) = (s, λ t. rw (s, u, g, c), λ t. rw (s, u, g, c))

reads_logout : Reads logout
unfolding logout
reads_logout p q (s, more) = (s, λ t. rw s, λ t. rw s)

reads_take : Reads take
unfolding take
reads_take p q (s, (r, more)) = (s, λ t. rw (s, r), λ t. rw (s, r))

reads_drop : Reads drop
unfolding drop
reads_drop p q (s, (r, more)) = (s, λ t. rw (s, r), λ t. rw (s, r))

reads_openr : Reads openr
unfolding openr cannot_open
reads_openr p q (s, (e, more)) = (s, λ t. rw (s, e), λ t. rw (s, e))

reads_openw : Reads openw
unfolding openw cannot_open
reads_openw p q (s, (e, more)) = (s, λ t. rw (s, e), λ t. rw (s, e))

reads_close : Reads close
unfolding close not_open
reads_close p q (s, (e, more)) = (s, λ t. rw (s, e), λ t. rw (s, e))

reads_create : Reads create
unfolding create created create_out_of_level cannot_change_in name_taken
reads_create p q (s, (e, (k, (m, (n, ((g, c), (r, more))))))) = (s, λ t. rw (s, e, m, n, g, c, r), λ t. rw (e, k, m, n, g, c, r))

reads_delete : Reads delete
unfolding delete cannot_change_in cannot_change has_children
reads_delete p q (s, (e, more)) = (s, λ t. rw (s, e), λ t. rw e)

reads_rename : Reads rename
unfolding rename cannot_change_in cannot_change name_taken
reads_rename p q (s, (e, (n, more))) = (s, λ t. rw (s, e, n), λ t. rw (e, n))

reads_grant : Reads grant
unfolding grant grant_below
reads_grant p q (s, (r, (e, (n, more)))) = (s, λ t. rw (s, r, e), λ t. rw (r, e, n))

reads_revoke : Reads revoke
unfolding grant revoke grant_below
reads_revoke p q (s, (r, (e, (n, more)))) = (s, λ t. rw (s, r, e), λ t. rw (r, e, n))

reads_list : Reads list
unfolding list
reads_list p q (s, (r, (u, more))) = (s, λ t. rw (s, r, u), λ t. rw (r, u))

reads_unlist : Reads unlist
unfolding unlist
reads_unlist p q (s, (r, (u, more))) = (s, λ t. rw (s, r, u), λ t. rw (r, u))

reads_make : Reads make
unfolding make
reads_make p q (s, (r, more)) = (s, λ t. rw (s, r), λ t. rw r)

reads_unmake : Reads unmake
unfolding unmake role_tied
reads_unmake p q (s, (r, more)) = (s, λ t. rw (s, r), λ t. rw r)

reads_share : Reads share
unfolding share
reads_share p q (s, (e, (m, more))) = (s, λ t. rw (s, e, m), λ t. rw (e, m))

reads_join : Reads join
unfolding join tie_out_of_level closes_cycle
reads_join p q (s, (r, (j, more))) = (s, λ t. rw (s, r, j), λ t. rw (r, j))

reads_unjoin : Reads unjoin
unfolding unjoin join tie_out_of_level
reads_unjoin p q (s, (r, (j, more))) = (s, λ t. rw (s, r, j), λ t. rw (r, j))

reads_unknown : Reads unknown
unfolding unknown
reads_unknown p q (s, more) = (s, λ t. refl, λ t. refl)

each_reads : Each Reads rules
unfolding rules
each_reads = (reads_login, (reads_logout, (reads_take, (reads_drop, (reads_openr, (reads_openw, (reads_close, (reads_create, (reads_delete, (reads_rename, more))))))))))
  where
    more : Each Reads (grant ∷ revoke ∷ list ∷ unlist ∷ make ∷ unmake ∷ share ∷ join ∷ unjoin ∷ [])
    more = (reads_grant, (reads_revoke, (reads_list, (reads_unlist, (reads_make, (reads_unmake, (reads_share, (reads_join, (reads_unjoin, tt)))))))))

reads : (q : Request) → Reads (rule_of q)
reads = each_rule Reads each_reads reads_unknown

-- ---- two requests that ask the same
module _ (p q : Request) (same : same_request p q ≡ true) where
  pub same_rule : rule_of q ≡ rule_of p
  unfolding same_request rule_of
  same_rule = rw (eqb-true p.call q.call (every_at _ same 0))

  pub same_fields : SameFields p q (rule_of p).uses
  unfolding same_request
  same_fields = fields_e p q (rule_of p).uses (every_e _ same).1

  pub same_seat : p.seat ≡ q.seat
  same_seat = (reads p p q same_fields).0

  pub same_answer : (t : Tables) → answer t p ≡ answer t q
  unfolding answer_in in_ranges_in
  same_answer t =
      rw (same_rule, map_same p q (field_in_range p) (field_in_range q) (range_same p q) (rule_of p).uses same_fields, (reads p p q same_fields).1 t)

  pub same_next : (t : Tables) → next t p ≡ next t q
  unfolding next_in
  same_next t = rw (same_rule, same_answer t, (reads p p q same_fields).2 t)

  -- openr and openw use the entity
  same_opened : p.call ≡ kinds.openr → p.entity ≡ q.entity
  unfolding rule_of rules openr
  same_opened h = (rw h at same_fields).1.0

  same_written : p.call ≡ kinds.openw → p.entity ≡ q.entity
  unfolding rule_of rules openw
  same_written h = (rw h at same_fields).1.0

  same_opening : (t : Tables) → role_opening t p ≡ role_opening t q
  unfolding role_opening same_request
  same_opening t =
      let call_is : q.call ≡ p.call = sym (eqb-true p.call q.call (every_at _ same 0)) in
      rw (call_is, ← same_seat) (opening_same t t p.call p.seat p.seat p.entity q.entity (λ h. rw (same_opened h)) (λ h. rw (same_written h)))

  pub same_role : (t : Tables) → role_told t p ≡ role_told t q
  unfolding role_told_in
  same_role t = rw (same_answer t, same_opening t)

-- Fields that a request does not use are not looked at.
pub unused_fields : (p q : Request) → same_request p q ≡ true → (t : Tables) → step t p ≡ step t q
unfolding step
unused_fields p q same t = rw (same_answer p q same t, same_next p q same t, same_role p q same t)

-- ---- a request asks the same as itself
itself : (n : ℕ) → eqb n n ≡ true
itself n = eq-eqb n n refl

module _ (q : Request) where
  field_refl : (f : Field) → same_field q q f ≡ true
  unfolding same_field same_label
  field_refl call = itself q.call
  field_refl seat = itself q.seat
  field_refl user = itself q.user
  field_refl role = itself q.role
  field_refl entity = itself q.entity
  field_refl parent = itself q.parent
  field_refl kind = itself q.kind
  field_refl name = itself q.name
  field_refl label = every_i _ (itself q.grade, (itself q.cats, tt))
  field_refl rights = itself q.rights
  field_refl shared = itself q.shared
  field_refl junior = itself q.junior

  fields_refl : (fs : List Field) → tests.Each (map (same_field q q) fs)
  fields_refl [] = tt
  fields_refl (f ∷ fs) = (field_refl f, fields_refl fs)

  pub same_refl : same_request q q ≡ true
  unfolding same_request
  same_refl = every_i _ (itself q.call, fields_refl (rule_of q).uses)

pub same_refls : (a : List Request) → same_requests a a ≡ true
unfolding same_requests
same_refls [] = refl
same_refls (q ∷ a) = every_i _ (same_refl q, (same_refls a, tt))
