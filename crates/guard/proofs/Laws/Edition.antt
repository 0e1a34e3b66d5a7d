-- The edition: chosen when built, changed by no request, and looked at by openr and soundness alone.
--     with_edition                   the same records in an edition
--     next_edition, run_edition     tables have the edition after a request, and after a log, that they had before it
--     sound_in_2                    sound in edition 1: sound in edition 2
--     editions_agree                a request other than an openr of what is below its seat is answered alike in both, tells the same
--                                   role, and does the same
--     openr_never_10                openr has no condition 10 in edition 2
-- Assumes nothing.
use Prim.Native.Nat.{ℕ}
use mathlib.Core.Path.{◌≡◌, refl, sym, ap, subst, ◌∙◌}
use mathlib.Core.Bool.{Bool, true, false, cond}
use mathlib.Core.List.{List, [], ◌∷◌}
use lib.Dec.{eqb}
use lib.ListN.{get_or}
use borrow.Author.Tests.{eqb-false}
use Rattle.bitset.specs.Tests.{every}
use Rattle.bitset.specs.Tests.Laws.{clash, every_i, every_at, implies_i}
use Rattle.guard.specs.Tables.{edition1, edition2, role_has, role_for, has_right, is_child}
use Rattle.guard.specs.Chain.{reaches}
use Rattle.guard.specs.Sound.{sound, edition_in_range}
use Rattle.guard.specs.Edits.{at_session, at_role, at_entity, each_session, each_role}
use Rattle.guard.specs.Backed.{backed, end_unbacked}
use Rattle.guard.specs.Conditions.{entity_below_seat, user_too_low, create_out_of_level, grant_below, tie_out_of_level, closes_cycle, role_tied, cannot_open, cannot_change_in, cannot_change, not_open, name_taken, has_children}
use Rattle.guard.specs.Requests.{Rule, login, logout, take, drop, openr, openw, close, create, delete, rename, grant, revoke, list, unlist, make, unmake, share, join, unjoin, unknown, rules, rule_of}
use Rattle.guard.specs.Kind as kind
use Rattle.guard.specs.Step.{answer, answer_in, next, next_in, role_opening, role_told, role_told_in, run, run_in}
use Rattle.guard.specs.declared.Tables.{Tables}
use Rattle.guard.specs.declared.Request.{Request}
use Rattle.guard.proofs.Laws.Sound.{formed_e, backed_e, sound_i}
use Rattle.guard.proofs.Laws.Refusals.{condition_of}
use Rattle.guard.proofs.Laws.Requests.{conditions, numbered, answer_met}
use Rattle.guard.proofs.Laws.Step.{next_by_lem, Each, EachAt, each_rule, each_numbered}

-- the same records in an edition
abbrev pub with_edition : ℕ → Tables → Tables
with_edition edition t = record { users = t.users; sessions = t.sessions; roles = t.roles; entities = t.entities; edition = edition }

-- ---- what a rule does, it does in every edition, and leaves it as it is
abbrev Does : Rule → Type 0
Does rule = (edition : ℕ) (q : Request) (t : Tables) → rule.effect q (with_edition edition t) ≡ with_edition edition (rule.effect q t)

each_does : Each Does rules
unfolding rules login logout take drop openr openw close create delete rename grant revoke list unlist make unmake share join unjoin at_session at_role at_entity each_session each_role end_unbacked backed has_right role_for role_has
each_does = (λ n q t. refl, (λ n q t. refl, (λ n q t. refl, (λ n q t. refl, (λ n q t. refl, (λ n q t. refl, (λ n q t. refl, (λ n q t. refl, (λ n q t. refl, (λ n q t. refl, (λ n q t. refl, (λ n q t. refl, (λ n q t. refl, (λ n q t. refl, (λ n q t. refl, (λ n q t. refl, (λ n q t. refl, (λ n q t. refl, (λ n q t. refl, tt)))))))))))))))))))

unknown_does : Does unknown
unfolding unknown
unknown_does edition q t = refl

does : (edition : ℕ) (q : Request) (t : Tables) → (rule_of q).effect q (with_edition edition t) ≡ with_edition edition ((rule_of q).effect q t)
does edition q t = each_rule Does each_does unknown_does q edition q t

pub next_edition : (t : Tables) (q : Request) → (next t q).edition ≡ t.edition
next_edition t q = next_by_lem (λ u. u.edition ≡ t.edition) t q refl (λ d. ap (λ (u : Tables). u.edition) (does t.edition q t))

pub run_edition : (t : Tables) (log : List Request) → (run t log).edition ≡ t.edition
unfolding run_in
run_edition t [] = refl
run_edition t (q ∷ log) = run_edition (next t q) log ∙ next_edition t q

-- ---- nothing else differs
ranged_2 : edition_in_range edition2 ≡ true
unfolding edition_in_range every
ranged_2 = refl

pub sound_in_2 : (t : Tables) → sound (with_edition edition1 t) ≡ true → sound (with_edition edition2 t) ≡ true
sound_in_2 t h =
    let ok = formed_e _ h in
    sound_i _
    (record {
      edition = ranged_2;
      users = ok.users;
      many_sessions = ok.many_sessions;
      many_roles = ok.many_roles;
      many_entities = ok.many_entities;
      session = λ s l.
          let old = ok.session s l in
          record {
            user = old.user;
            label = old.label;
            empty = old.empty;
            held = old.held;
            reading = record {
              small = old.reading.small;
              none = old.reading.none;
              members = λ e k m.
                  let seen = every_at _ (old.reading.members e k m) in
                  every_i _ (seen 0, (implies_i _ _ (λ first. absurd (clash (eqb edition2 edition1) first refl)), (seen 2, tt)));
            };
            writing = old.writing;
          };
      role = ok.role;
      ties = ok.ties;
      entity = ok.entity;
    })
    (backed_e _ _ h)

module _ (t : Tables) (q : Request) where
  -- the rule at number n refuses alike in both editions, unless it is an openr of what is below the seat
  abbrev Alike : ℕ → Rule → Type 0
  Alike n rule = (n ≡ kind.openr → entity_below_seat t q ≡ false) → rule.refusals (with_edition edition1 t) q ≡ rule.refusals (with_edition edition2 t) q

  each_alike : EachAt Alike rules
  unfolding rules login logout take drop openr openw close create delete rename grant revoke list unlist make unmake share join unjoin user_too_low create_out_of_level grant_below tie_out_of_level closes_cycle role_tied cannot_open cannot_change_in cannot_change not_open name_taken has_children role_has role_for has_right is_child reaches every
  each_alike = (λ h. refl, (λ h. refl, (λ h. refl, (λ h. refl, (λ h. rw (h refl), (λ h. refl, (λ h. refl, (λ h. refl, (λ h. refl, (λ h. refl, (λ h. refl, (λ h. refl, (λ h. refl, (λ h. refl, (λ h. refl, (λ h. refl, (λ h. refl, (λ h. refl, (λ h. refl, tt)))))))))))))))))))

  unknown_alike : (n : ℕ) → Alike n unknown
  unfolding unknown
  unknown_alike n h = refl

  answers_agree : sound (with_edition edition1 t) ≡ true → (q.call ≡ kind.openr → entity_below_seat t q ≡ false)
      → answer (with_edition edition1 t) q ≡ answer (with_edition edition2 t) q
  unfolding answer_in
  answers_agree h above = rw (h, sound_in_2 t h, each_numbered Alike each_alike unknown_alike q above)

  pub editions_agree : sound (with_edition edition1 t) ≡ true → (q.call ≡ kind.openr → entity_below_seat t q ≡ false)
      → (answer (with_edition edition1 t) q ≡ answer (with_edition edition2 t) q)
      × (role_told (with_edition edition1 t) q ≡ role_told (with_edition edition2 t) q)
      × (next (with_edition edition1 t) q ≡ with_edition edition1 (next (with_edition edition2 t) q))
  unfolding next_in role_told_in role_opening role_for role_has
  editions_agree h above =
      (answers_agree h above, rw (answers_agree h above), rw (answers_agree h above) (go (eqb (answer (with_edition edition2 t) q) 0)))
    where
      go : (b : Bool)
          → cond b ((rule_of q).effect q (with_edition edition1 t)) (with_edition edition1 t)
          ≡ with_edition edition1 (cond b ((rule_of q).effect q (with_edition edition2 t)) (with_edition edition2 t))
      go true = does edition1 q (with_edition edition2 t)
      go false = refl

-- In edition 2 openr has no condition 10.
no_10 : (t : Tables) (q : Request) → t.edition ≡ edition2 → condition_of 10 (conditions openr t q) ≡ false
unfolding openr every
no_10 t q two = rw two

pub openr_never_10 : (t : Tables) (q : Request) → t.edition ≡ edition2 → q.call ≡ kind.openr → answer t q ≡ 10 → ⊥
unfolding rule_of
openr_never_10 t q two is ten =
    let rule : rule_of q ≡ openr = ap (λ n. get_or rules n unknown) is ∙ numbered.4 in
    let met = answer_met t q (λ none. eqb-false 10 0 refl (sym ten ∙ none)) in
    let met10 : condition_of 10 (conditions openr t q) ≡ true = subst (λ (r : Rule). condition_of 10 (conditions r t q) ≡ true) rule (subst (λ (n : ℕ). condition_of n (conditions (rule_of q) t q) ≡ true) ten met) in
    clash false (sym (no_10 t q two) ∙ met10) refl
