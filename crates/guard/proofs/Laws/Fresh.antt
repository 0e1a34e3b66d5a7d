-- Fresh tables over users in range are sound in either edition, and so are those that every build hands back.
-- Assumes nothing.
use Rattle.std.specs.Prelude.{None}
use Prim.Native.Nat.{ℕ}
use mathlib.Core.Path.{◌≡◌, refl}
use mathlib.Core.Bool.{Bool, true, false, cond}
use mathlib.Core.List.{List, [], ◌∷◌}
use lib.Dec.{eqb}
use lib.ListN.{length, replicate}
use Rattle.bitset.specs.Tests.{every, all}
use Rattle.bitset.specs.Tests.Laws.{Each, every_i, every_at}
use Rattle.guard.proofs.Compute.{computing}
use Rattle.guard.specs.Level.{user_count, session_count, role_count, entity_count}
use Rattle.guard.specs.Tables.{edition1, no_user, session_at, role_at, entity_at}
use Rattle.guard.specs.Sound.{role_in_range, users_in_range, edition_in_range, fields_in_range_in, roots_as_said, keepers_as_said, entities_placed, objects_unshared, dead_are_empty, dead_are_unused, rights_within, reading_within, writing_within, opens_backed, ties_join, none_below_itself, sound, sound_in}
use Rattle.guard.specs.Fresh.{fresh, build}
use Rattle.guard.specs.Private.InForce.{session_in_range, entity_in_range, fields_in_range}
use Rattle.guard.specs.declared.User.{User}
use Rattle.guard.specs.declared.Tables.{Tables}
use Rattle.guard.specs.declared.Outcome.{Outcome}

abbrev outcome : Tables → ℕ → Outcome
outcome t n = record { tables = t; answer = n; role = None }

-- all that soundness asks beside the users and the edition does not look at them: by computing
module _ (us : List User) (edition : ℕ) where
  sessions_in_range : all session_count (λ s. session_in_range (session_at (fresh us edition) s)) ≡ true
  unfolding computing
  sessions_in_range = refl

  roles_in_range : all role_count (λ r. role_in_range (role_at (fresh us edition) r)) ≡ true
  unfolding computing
  roles_in_range = refl

  entities_in_range : all entity_count (λ e. entity_in_range (entity_at (fresh us edition) e)) ≡ true
  unfolding computing
  entities_in_range = refl

  sessions_counted : eqb (length (fresh us edition).sessions) session_count ≡ true
  unfolding computing
  sessions_counted = refl

  roles_counted : eqb (length (fresh us edition).roles) role_count ≡ true
  unfolding computing
  roles_counted = refl

  entities_counted : eqb (length (fresh us edition).entities) entity_count ≡ true
  unfolding computing
  entities_counted = refl

  fields : users_in_range us ≡ true → edition_in_range edition ≡ true → fields_in_range (fresh us edition) ≡ true
  unfolding fields_in_range_in fresh
  fields h k =
      every_i _
      (h, (sessions_counted, (sessions_in_range, (roles_counted, (roles_in_range, (entities_counted, (entities_in_range, (k, tt))))))))

  others : Each
      (roots_as_said (fresh us edition)
      ∷ keepers_as_said (fresh us edition)
      ∷ entities_placed (fresh us edition)
      ∷ objects_unshared (fresh us edition)
      ∷ dead_are_empty (fresh us edition)
      ∷ dead_are_unused (fresh us edition)
      ∷ rights_within (fresh us edition)
      ∷ reading_within (fresh us edition)
      ∷ writing_within (fresh us edition)
      ∷ opens_backed (fresh us edition)
      ∷ ties_join (fresh us edition)
      ∷ none_below_itself (fresh us edition)
      ∷ [])
  unfolding computing
  others = (refl, (refl, (refl, (refl, (refl, (refl, (refl, (refl, (refl, (refl, (refl, (refl, tt))))))))))))

pub fresh_sound : (us : List User) (edition : ℕ) → users_in_range us ≡ true → edition_in_range edition ≡ true → sound (fresh us edition) ≡ true
unfolding sound_in
fresh_sound us edition h k = every_i _ (fields us edition h k, others us edition)

no_users : (users_in_range (replicate user_count no_user) ≡ true) × (edition_in_range edition1 ≡ true)
unfolding computing
no_users = (refl, refl)

-- whatever users and edition are handed in, the tables handed back are sound
pub build_sound : (us : List User) (edition : ℕ) → sound (build us edition).tables ≡ true
unfolding build
build_sound us edition = go (every (users_in_range us ∷ edition_in_range edition ∷ [])) refl
  where
    go : (b : Bool) → every (users_in_range us ∷ edition_in_range edition ∷ []) ≡ b
        → sound (cond b (outcome (fresh us edition) 0) (outcome (fresh (replicate user_count no_user) edition1) 2)).tables ≡ true
    go true h = fresh_sound us edition (every_at _ h 0) (every_at _ h 1)
    go false h = fresh_sound (replicate user_count no_user) edition1 no_users.0 no_users.1
