-- Soundness is kept: for all sound tables and every request, of unknown kind too, done or refused, the tables handed
-- back are sound; so also after a log of any length. They stay formed, one file a kind of edit, and their opens backed (Backed).
--     sound_next_in                in any width
--     sound_next, sound_run       in force
-- Assumes nothing.
use Prim.Native.Nat.{ℕ}
use mathlib.Core.Path.{◌≡◌}
use mathlib.Core.Bool.{true}
use mathlib.Core.List.{List, [], ◌∷◌}
use Rattle.guard.specs.Label.{all_categories}
use Rattle.guard.specs.Sound.{sound_in, sound}
use Rattle.guard.specs.Requests.{grant, revoke, list, unlist, make, unmake, share, join, unjoin, unknown, rules}
use Rattle.guard.specs.Step.{next_in, next, run_in, run}
use Rattle.guard.specs.declared.Tables.{Tables}
use Rattle.guard.specs.declared.Request.{Request}
use Rattle.guard.proofs.Laws.Sound.{formed_e, backed_e, sound_i}
use Rattle.guard.proofs.Laws.Step.{next_by_lem, Each, each_rule}
use Sessions.{Keeps, keeps_login, keeps_logout, keeps_take, keeps_drop, keeps_openr, keeps_openw, keeps_close}
use Backed.{KeepsBacked, backs_login, backs_logout, backs_take, backs_drop, backs_openr, backs_openw, backs_close, backs_create, backs_delete, backs_rename, backs_grant, backs_revoke, backs_list, backs_unlist, backs_make, backs_unmake, backs_share, backs_join, backs_unjoin}
use Roles.{keeps_grant, keeps_revoke, keeps_list, keeps_unlist, keeps_make, keeps_unmake, keeps_join, keeps_unjoin}
use Rename.{keeps_rename}
use Delete.{keeps_delete}
use Create.{keeps_create}
use Share.{keeps_share}
pub mod EachStays
pub mod Ties
pub mod Sessions
pub mod Roles
pub mod Entities
pub mod Rename
pub mod Delete
pub mod Create
pub mod Share
pub mod Backed

each_keeps : (width : ℕ) → Each (Keeps width) rules
unfolding rules
each_keeps width = (keeps_login, (keeps_logout, (keeps_take, (keeps_drop, (keeps_openr, (keeps_openw, (keeps_close, (keeps_create, (keeps_delete, (keeps_rename, more))))))))))
  where
    more : Each (Keeps width) (grant ∷ revoke ∷ list ∷ unlist ∷ make ∷ unmake ∷ share ∷ join ∷ unjoin ∷ [])
    more = (keeps_grant, (keeps_revoke, (keeps_list, (keeps_unlist, (keeps_make, (keeps_unmake, (keeps_share, (keeps_join, (keeps_unjoin, tt)))))))))

keeps_unknown : (width : ℕ) → Keeps width unknown
unfolding unknown
keeps_unknown width t q d = formed_e t d.is_sound

each_backs : (width : ℕ) → Each (KeepsBacked width) rules
unfolding rules
each_backs width = (backs_login, (backs_logout, (backs_take, (backs_drop, (backs_openr, (backs_openw, (backs_close, (backs_create, (backs_delete, (backs_rename, more))))))))))
  where
    more : Each (KeepsBacked width) (grant ∷ revoke ∷ list ∷ unlist ∷ make ∷ unmake ∷ share ∷ join ∷ unjoin ∷ [])
    more = (backs_grant, (backs_revoke, (backs_list, (backs_unlist, (backs_make, (backs_unmake, (backs_share, (backs_join, (backs_unjoin, tt)))))))))

backs_unknown : (width : ℕ) → KeepsBacked width unknown
unfolding unknown
backs_unknown width t q d = backed_e _ t d.is_sound

pub sound_next_in : (width : ℕ) (t : Tables) (q : Request) → sound_in width t ≡ true → sound_in width (next_in width t q) ≡ true
sound_next_in width t q h =
    next_by_lem (λ u. sound_in width u ≡ true) t q h (λ d.
    sound_i _ (each_rule (Keeps width) (each_keeps width) (keeps_unknown width) q t q d)
    (each_rule (KeepsBacked width) (each_backs width) (backs_unknown width) q t q d))

pub sound_next : (t : Tables) (q : Request) → sound t ≡ true → sound (next t q) ≡ true
sound_next = sound_next_in all_categories

pub sound_run : (t : Tables) (log : List Request) → sound t ≡ true → sound (run t log) ≡ true
unfolding run_in
sound_run t [] h = h
sound_run t (q ∷ log) h = sound_run (next t q) log (sound_next t q h)
