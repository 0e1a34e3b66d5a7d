-- Respect: a request whose seat and all that it names are upper takes equal upper parts to equal upper parts, where it is
-- done in both tables, which leaves sound ones.
--     respects        each rule's effect, by the laws of its edits; where opens end after it, the same ones do (Ending)
-- Assumes nothing.
use Rattle.std.specs.Prelude.{ℕ, ◌≡◌, leb, map}
use Rattle.std.proofs.Math.Bool.{true}
use Rattle.bitset.specs.Tests.{every}
use Rattle.bitset.specs.Tests.Laws.{every_at}
use Rattle.guard.specs.Level.{session_level, role_level, entity_level}
use Rattle.guard.specs.Tables.{no_session, no_role}
use Rattle.guard.specs.Sound.{sound}
use Rattle.guard.specs.Edits.{at_session, at_role, at_entity, each_session, each_role, drop_role, close_both, add_rights, remove_rights, clear_rights, made_role}
use Rattle.guard.specs.Backed.{end_unbacked}
use Rattle.guard.specs.Requests.{Rule, logged_in, login, logout, take, drop, openr, openw, close, create, delete, rename, grant, revoke, list, unlist, make, unmake, share, join, unjoin, unknown, rules, rule_of}
use Rattle.isolation.specs.Upper.{upper_session, upper_role, field_upper}
use Rattle.guard.specs.declared.Session.{Session}
use Rattle.guard.specs.declared.Role.{Role}
use Rattle.guard.specs.declared.Entity.{Entity}
use Rattle.guard.specs.declared.Tables.{Tables}
use Rattle.guard.specs.declared.Request.{Request}
use Rattle.guard.proofs.Laws.Step.{each_rule}
use Rattle.isolation.proofs.OneRequest.Lists.{Image, const_image, whole_image}
use Rattle.isolation.proofs.OneRequest.Views.{Same, upper_seat, upper_role_lem, upper_entity}
use Rattle.isolation.proofs.OneRequest.Edits.{session_table, role_table, entity_table, row_alike, rows_alike, taking, dropping, opening_r, opening_w, closing, setting, listing_image, unlisting_image, tying_image, untying_image}
use Rattle.isolation.proofs.OneRequest.Ending.{ending_alike}
use Rattle.isolation.proofs.OneRequest.{◌and◌}

module _ (L : ℕ) (q : Request) where
  -- f takes equal upper parts to equal ones
  abbrev Alike : (Tables → Tables) → Type 0
  Alike f = (t u : Tables) → Same L t u → Same L (f t) (f u)

  -- .. where it leaves sound tables
  abbrev AlikeSound : (Tables → Tables) → Type 0
  AlikeSound f = (t u : Tables) → sound (f t) ≡ true → sound (f u) ≡ true → Same L t u → Same L (f t) (f u)

  -- no open ends after f, or those end that are no longer backed
  ends_none : {f : Tables → Tables} → Alike f → AlikeSound f
  ends_none alike t u st su = alike t u

  ends : {f : Tables → Tables} → Alike f → AlikeSound (λ t. end_unbacked (f t))
  ends alike t u st su same = ending_alike L _ _ st su (alike t u same)

  -- ---- the edits of the records that a request names
  at_seat : (f : Session → Session) → leb L (session_level q.seat) ≡ true → Image (upper_session L) f → Alike (at_session q.seat f)
  unfolding at_session
  at_seat f up image t u = row_alike L (session_table L) f q.seat t u (upper_seat L q.seat up) image

  at_role_lem : (f : Role → Role) → leb L (role_level q.role) ≡ true → Image (upper_role L) f → Alike (at_role q.role f)
  unfolding at_role
  at_role_lem f up image t u = row_alike L (role_table L) f q.role t u (upper_role_lem L q.role up) image

  at_entity_lem : (f : Entity → Entity) → leb L (entity_level q.entity) ≡ true → Alike (at_entity q.entity f)
  unfolding at_entity
  at_entity_lem f up t u = row_alike L (entity_table L) f q.entity t u (upper_entity L q.entity up) (whole_image f)

  -- ---- the rules, in their order
  abbrev Respects : Rule → Type 0
  Respects rule = every (map (field_upper L q) rule.uses) ≡ true → AlikeSound (rule.effect q)

  pub respects : Respects (rule_of q)
  unfolding rules login logout take drop openr openw close create delete rename grant revoke list unlist make unmake share join unjoin unknown field_upper each_session each_role add_rights remove_rights clear_rights
  respects =
      each_rule Respects
      ((λ n. ends_none (at_seat _ (every_at _ n 0) (const_image (upper_session L) (logged_in q))))  -- login
      and (λ n. ends_none (at_seat _ (every_at _ n 0) (const_image (upper_session L) no_session)))  -- logout
      and (λ n. ends_none (at_seat _ (every_at _ n 0) ((taking L q.role).1 (upper_role_lem L q.role (every_at _ n 1)))))  -- take
      and (λ n. ends (at_seat _ (every_at _ n 0) ((dropping L q.role).1 (upper_role_lem L q.role (every_at _ n 1)))))  -- drop
      and (λ n. ends_none (at_seat _ (every_at _ n 0) ((opening_r L q.entity).1 (upper_entity L q.entity (every_at _ n 1)))))  -- openr
      and (λ n. ends_none (at_seat _ (every_at _ n 0) ((opening_w L q.entity).1 (upper_entity L q.entity (every_at _ n 1)))))  -- openw
      and (λ n. ends_none (at_seat _ (every_at _ n 0) ((closing L q.entity).1 (upper_entity L q.entity (every_at _ n 1)))))  -- close
      and (λ n. ends_none (creating n))  -- create
      and (λ n. ends_none (deleting n))  -- delete
      and (λ n. ends_none (at_entity_lem _ (every_at _ n 1)))  -- rename
      and (λ n. ends_none (at_role_lem _ (every_at _ n 1) ((setting L q.entity _).1 (upper_entity L q.entity (every_at _ n 2)))))  -- grant
      and (λ n. ends (at_role_lem _ (every_at _ n 1) ((setting L q.entity _).1 (upper_entity L q.entity (every_at _ n 2)))))  -- revoke
      and (λ n. ends_none (at_role_lem _ (every_at _ n 1) (listing_image L q.user)))  -- list
      and (λ n. ends_none (at_role_lem _ (every_at _ n 1) (unlisting_image L q.user)))  -- unlist
      and (λ n. ends_none (at_role_lem _ (every_at _ n 1) (const_image (upper_role L) made_role)))  -- make
      and (λ n. ends (unmaking n))  -- unmake
      and (λ n. ends_none (at_entity_lem _ (every_at _ n 1)))  -- share
      and (λ n. ends_none (at_role_lem _ (every_at _ n 1) (tying_image L q.junior (upper_role_lem L q.junior (every_at _ n 2)))))  -- join
      and (λ n. ends (at_role_lem _ (every_at _ n 1) (untying_image L q.junior (upper_role_lem L q.junior (every_at _ n 2)))))  -- unjoin
      and tt)
      (λ n t u st su same. same) q
    where
      creating : every (map (field_upper L q) create.uses) ≡ true → Alike (create.effect q)
      creating n t u same =
          at_role_lem _ (every_at _ n 6) ((setting L q.entity _).1 (upper_entity L q.entity (every_at _ n 1))) _ _ (at_entity_lem _ (every_at _ n 1) t u same)

      deleting : every (map (field_upper L q) delete.uses) ≡ true → Alike (delete.effect q)
      deleting n t u same =
          let up = upper_entity L q.entity (every_at _ n 1) in
          rows_alike L (session_table L) (close_both q.entity) _ _ ((closing L q.entity).1 up)
          (rows_alike L (role_table L) (clear_rights q.entity) _ _ ((setting L q.entity _).1 up) (at_entity_lem _ (every_at _ n 1) t u same))

      unmaking : every (map (field_upper L q) unmake.uses) ≡ true → Alike (λ t. each_session (drop_role q.role) (at_role q.role (λ old. no_role) t))
      unmaking n t u same =
          rows_alike L (session_table L) (drop_role q.role) _ _ ((dropping L q.role).1 (upper_role_lem L q.role (every_at _ n 1)))
          (at_role_lem _ (every_at _ n 1) (const_image (upper_role L) no_role) t u same)
