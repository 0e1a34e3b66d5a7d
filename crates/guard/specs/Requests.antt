-- The nineteen requests. x is the acting seat. The numbers are the refusals that apply.
use Rattle.std.specs.Prelude.{ℕ, Bool, true, List, [], ◌∷◌, leb, ltb, get_or}
use Rattle.bitset.specs.Tests.{every, either}
use Rattle.guard.specs.Level.{user_count, session_count, role_count, entity_count, is_root, is_keeper}
use Rattle.guard.specs.Label.{label_in_range_in}
use Rattle.guard.specs.Tables.{in_edition1, no_session, no_role, no_entity, container, shared_mark, read, write, own, all_rights}
use Rattle.guard.specs.Sound.{top_name}
use Rattle.guard.specs.Edits.{at_session, at_role, at_entity, each_session, each_role, take_role, drop_role, open_reading, open_writing, close_both, add_rights, remove_rights, clear_rights, list_user, unlist_user, tie_junior, untie_junior, rename_to, mark_as, made_role}
use Rattle.guard.specs.Backed.{end_unbacked}
use Rattle.guard.specs.Refusals.{Refusal, ◌when◌}
use Rattle.guard.specs.Conditions.{label_asked, seat_live, user_too_low, seat_dead, parent_no_container, entity_is_object, recorded_parent}
use Rattle.guard.specs.Conditions.{entity_below_seat, seat_below_entity, create_out_of_level, grant_below, seat_below_role, tie_out_of_level, label_below_entity, labels_differ, label_below_parent}
use Rattle.guard.specs.Conditions.{user_unlisted, role_not_held, keeper_not_held, closes_cycle, cannot_open, cannot_change_in, cannot_change, not_owned}
use Rattle.guard.specs.Conditions.{role_held, open_for_reading, open_for_writing, user_listed, tied, marked_so, not_open, user_not_listed, not_tied}
use Rattle.guard.specs.Conditions.{entity_dead, parent_dead, role_dead, junior_dead, entity_live, role_live, name_taken, has_children, role_tied}
use Rattle.guard.specs.declared.Session.{Session}
use Rattle.guard.specs.declared.Entity.{Entity}
use Rattle.guard.specs.declared.Tables.{Tables}
use Rattle.guard.specs.declared.Request.{Request}

-- the fields of a request
pub data Field : Type 0 where
  call seat user role entity parent kind name label rights shared junior : Field

-- 2 a number is out of range; name 0, rights 0 and a request of none of the nineteen kinds count as such.
abbrev pub request_count : ℕ
request_count = 19

unfoldable pub field_in_range_in : ℕ → Request → Field → Bool
field_in_range_in width q call = ltb q.call request_count
field_in_range_in width q seat = ltb q.seat session_count
field_in_range_in width q user = ltb q.user user_count
field_in_range_in width q role = ltb q.role role_count
field_in_range_in width q entity = ltb q.entity entity_count
field_in_range_in width q parent = ltb q.parent entity_count
field_in_range_in width q kind = leb q.kind container
field_in_range_in width q name = every (leb 1 q.name ∷ leb q.name top_name ∷ [])
field_in_range_in width q label = label_in_range_in width (label_asked q)
field_in_range_in width q rights = every (leb 1 q.rights ∷ leb q.rights all_rights ∷ [])
field_in_range_in width q shared = leb q.shared shared_mark
field_in_range_in width q junior = ltb q.junior role_count

-- What the papers say of one request: the fields that it uses, the refusals that apply after 1 and 2, and what it does.
-- Both read the tables: which opens a drop, revoke, unmake or unjoin ends is a matter of the rights that are left.
pub record Rule : Type 0 where
  pub uses : List Field
  pub refusals : Tables → Request → List Refusal
  pub effect : Request → Tables → Tables

-- login (seat, user, label): 3, 4. The seat becomes live with nothing held or open.
unfoldable pub logged_in : Request → Session
logged_in q = record { live = true; user = q.user; label = label_asked q; roles = 0; reading = 0; writing = 0 }

unfoldable pub login : Rule
login =
    record {
      uses = seat ∷ user ∷ label ∷ [];
      refusals = λ t q. 3 when seat_live t q ∷ 4 when user_too_low t q ∷ [];
      effect = λ q. at_session q.seat (λ old. logged_in q);
    }

-- logout (x): the seat becomes empty.
unfoldable pub logout : Rule
logout =
    record {
      uses = seat ∷ [];
      refusals = λ t q. 5 when seat_dead t q ∷ [];
      effect = λ q. at_session q.seat (λ old. no_session);
    }

-- take (x, role): 7, 12, 16.
unfoldable pub take : Rule
take =
    record {
      uses = seat ∷ role ∷ [];
      refusals = λ t q. 5 when seat_dead t q ∷ 7 when role_dead t q ∷ 12 when user_unlisted t q ∷ 16 when role_held t q ∷ [];
      effect = λ q. at_session q.seat (take_role q.role);
    }

-- drop (x, role): 7, 16. Opens that are no longer backed end.
unfoldable pub drop : Rule
drop =
    record {
      uses = seat ∷ role ∷ [];
      refusals = λ t q. 5 when seat_dead t q ∷ 7 when role_dead t q ∷ 16 when role_not_held t q ∷ [];
      effect = λ q t. end_unbacked (at_session q.seat (drop_role q.role) t);
    }

-- openr, openw (x, e): 7, 10, 11, 13, 16. In edition 2 openr has no condition 10.
unfoldable pub openr : Rule
openr =
    record {
      uses = seat ∷ entity ∷ [];
      refusals = λ t q.
          5 when seat_dead t q
          ∷ 7 when entity_dead t q
          ∷ 10 when every (in_edition1 t ∷ entity_below_seat t q ∷ [])
          ∷ 11 when label_below_entity t q
          ∷ 13 when cannot_open t q read
          ∷ 16 when open_for_reading t q
          ∷ [];
      effect = λ q. at_session q.seat (open_reading q.entity);
    }

unfoldable pub openw : Rule
openw =
    record {
      uses = seat ∷ entity ∷ [];
      refusals = λ t q.
          5 when seat_dead t q
          ∷ 7 when entity_dead t q
          ∷ 10 when seat_below_entity t q
          ∷ 11 when labels_differ t q
          ∷ 13 when cannot_open t q write
          ∷ 16 when open_for_writing t q
          ∷ [];
      effect = λ q. at_session q.seat (open_writing q.entity);
    }

-- close (x, e) ends both: 7, 16.
unfoldable pub close : Rule
close =
    record {
      uses = seat ∷ entity ∷ [];
      refusals = λ t q. 5 when seat_dead t q ∷ 7 when entity_dead t q ∷ 16 when not_open t q ∷ [];
      effect = λ q. at_session q.seat (close_both q.entity);
    }

-- create (x, e, kind, parent, name, label, role): 7, 8, 9, 10, 11, 12, 13, 14. The role gains own on e and nobody gains
-- anything else. "Entities and roots start with 0": the mark.
unfoldable pub created : Request → Entity
created q =
    record { live = true; kind = q.kind; parent = q.parent; name = q.name; label = label_asked q; shared = 0 }

unfoldable pub create : Rule
create =
    record {
      uses = seat ∷ entity ∷ kind ∷ parent ∷ name ∷ label ∷ role ∷ [];
      refusals = λ t q.
          5 when seat_dead t q
          ∷ 7 when either (parent_dead t q) (role_dead t q)
          ∷ 8 when entity_live t q
          ∷ 9 when parent_no_container t q
          ∷ 10 when create_out_of_level t q
          ∷ 11 when label_below_parent t q
          ∷ 12 when role_not_held t q
          ∷ 13 when cannot_change_in t q q.parent
          ∷ 14 when name_taken t q q.parent
          ∷ [];
      effect = λ q t. at_role q.role (add_rights q.entity own) (at_entity q.entity (λ old. created q) t);
    }

-- delete (x, e): 6, 7, 13, 15. Its record becomes empty; all rights on e and all opens of it go.
unfoldable pub delete : Rule
delete =
    record {
      uses = seat ∷ entity ∷ [];
      refusals = λ t q.
          5 when seat_dead t q
          ∷ 6 when is_root q.entity
          ∷ 7 when entity_dead t q
          ∷ 13 when cannot_change t q
          ∷ 15 when has_children t q
          ∷ [];
      effect = λ q t.
          each_session (close_both q.entity) (each_role (clear_rights q.entity) (at_entity q.entity (λ old. no_entity) t));
    }

-- rename (x, e, name): 6, 7, 13, 14.
unfoldable pub rename : Rule
rename =
    record {
      uses = seat ∷ entity ∷ name ∷ [];
      refusals = λ t q.
          5 when seat_dead t q
          ∷ 6 when is_root q.entity
          ∷ 7 when entity_dead t q
          ∷ 13 when cannot_change t q
          ∷ 14 when name_taken t q (recorded_parent t q)
          ∷ [];
      effect = λ q. at_entity q.entity (rename_to q.name);
    }

-- grant, revoke (x, role, e, rights): 7, 10, 13. The named rights are added or taken away; those already so stay so. After a revoke
-- opens that are no longer backed end.
unfoldable pub grant : Rule
grant =
    record {
      uses = seat ∷ role ∷ entity ∷ rights ∷ [];
      refusals = λ t q.
          5 when seat_dead t q
          ∷ 7 when either (entity_dead t q) (role_dead t q)
          ∷ 10 when grant_below t q
          ∷ 13 when not_owned t q
          ∷ [];
      effect = λ q. at_role q.role (add_rights q.entity q.rights);
    }

unfoldable pub revoke : Rule
revoke =
    record {
      uses = grant.uses;
      refusals = grant.refusals;
      effect = λ q t. end_unbacked (at_role q.role (remove_rights q.entity q.rights) t);
    }

-- list, unlist (x, role, user): 7, 10, 12, 16. Seats that hold the role keep it.
abbrev pub list_refusals : (Tables → Request → Bool) → Tables → Request → List Refusal
list_refusals already t q =
    5 when seat_dead t q
    ∷ 7 when role_dead t q
    ∷ 10 when seat_below_role t q
    ∷ 12 when keeper_not_held t q
    ∷ 16 when already t q
    ∷ []

unfoldable pub list : Rule
list =
    record {
      uses = seat ∷ role ∷ user ∷ [];
      refusals = list_refusals user_listed;
      effect = λ q. at_role q.role (list_user q.user);
    }

unfoldable pub unlist : Rule
unlist =
    record {
      uses = seat ∷ role ∷ user ∷ [];
      refusals = list_refusals user_not_listed;
      effect = λ q. at_role q.role (unlist_user q.user);
    }

-- make (x, role): 8, 10, 12. The role starts empty.
unfoldable pub make : Rule
make =
    record {
      uses = seat ∷ role ∷ [];
      refusals = λ t q. 5 when seat_dead t q ∷ 8 when role_live t q ∷ 10 when seat_below_role t q ∷ 12 when keeper_not_held t q ∷ [];
      effect = λ q. at_role q.role (λ old. made_role);
    }

-- unmake (x, role): 6, 7, 10, 12. Its list, its rights and every holding of it go. Opens that are no longer backed end. A role with a
-- junior or a senior is not unmade: 15.
unfoldable pub unmake : Rule
unmake =
    record {
      uses = seat ∷ role ∷ [];
      refusals = λ t q.
          5 when seat_dead t q
          ∷ 6 when is_keeper q.role
          ∷ 7 when role_dead t q
          ∷ 10 when seat_below_role t q
          ∷ 12 when keeper_not_held t q
          ∷ 15 when role_tied t q
          ∷ [];
      effect = λ q t. end_unbacked (each_session (drop_role q.role) (at_role q.role (λ old. no_role) t));
    }

-- share (x, e, mark) sets the mark: 7, 9 (it is an object), 10 (the seat is below it), 13 (no own on it), 16.
unfoldable pub share : Rule
share =
    record {
      uses = seat ∷ entity ∷ shared ∷ [];
      refusals = λ t q.
          5 when seat_dead t q
          ∷ 7 when entity_dead t q
          ∷ 9 when entity_is_object t q
          ∷ 10 when seat_below_entity t q
          ∷ 13 when not_owned t q
          ∷ 16 when marked_so t q
          ∷ [];
      effect = λ q. at_entity q.entity (mark_as q.shared);
    }

-- join, unjoin (x, senior, junior; the senior is the request's role) tie two live roles of one level, and untie them. Both need what
-- `list` needs (7, 10, 12); different levels give 10, and a tie that exists already, or is missing for unjoin, gives 16. 22 comes
-- between 12 and 13. Unjoin ends opens as A.3 says.
unfoldable pub join : Rule
join =
    record {
      uses = seat ∷ role ∷ junior ∷ [];
      refusals = λ t q.
          5 when seat_dead t q
          ∷ 7 when either (role_dead t q) (junior_dead t q)
          ∷ 10 when tie_out_of_level t q
          ∷ 12 when keeper_not_held t q
          ∷ 22 when closes_cycle t q
          ∷ 16 when tied t q
          ∷ [];
      effect = λ q. at_role q.role (tie_junior q.junior);
    }

unfoldable pub unjoin : Rule
unjoin =
    record {
      uses = join.uses;
      refusals = λ t q.
          5 when seat_dead t q
          ∷ 7 when either (role_dead t q) (junior_dead t q)
          ∷ 10 when tie_out_of_level t q
          ∷ 12 when keeper_not_held t q
          ∷ 16 when not_tied t q
          ∷ [];
      effect = λ q t. end_unbacked (at_role q.role (untie_junior q.junior) t);
    }

-- A request of none of the nineteen kinds: its number is out of range, and nothing else of it is looked at but its seat.
unfoldable pub unknown : Rule
unknown = record { uses = seat ∷ call ∷ []; refusals = λ t q. []; effect = λ q t. t }

-- The request's number: 0 to 18 in the order in which the papers list the nineteen.
unfoldable pub rules : List Rule
rules = login ∷ logout ∷ take ∷ drop ∷ openr ∷ openw ∷ close ∷ create ∷ delete ∷ rename ∷ grant ∷ revoke ∷ list ∷ unlist ∷ make ∷ unmake ∷ share ∷ join ∷ unjoin ∷ []

unfoldable pub rule_of : Request → Rule
rule_of q = get_or rules q.call unknown
