-- The parts of the test, in its order, against `sound`: what sound tables pass, and that tables which pass all are sound.
--     users_test, entities_test, chains_test, names_test, roles_test, ties_test, sessions_test      the parts
--     Taken, LiveRoles, Sized, keys_small, numbers                                           what the later parts rest on
--     edition_pass, users_pass, entities_pass, chains_pass, names_pass, roles_pass, ties_pass, sessions_pass          what sound tables pass
--     refuted, met, decided                    a part that fails, one that is met, and the last part, which decides
-- Assumes nothing.
use Prim.Native.Nat.{ℕ, ◌%◌, ◌≤◌, ◌<◌}
use mathlib.Core.Bool.{Bool, true, false, not}
use mathlib.Core.List.{List, [], ◌∷◌}
use mathlib.Core.Path.{◌≡◌, refl, sym, ◌∙◌}
use native.Mathlib.Omega.{arith}
use lib.ListN.{length, get_or}
use borrow.Author.Tests.{eq-eqb}
use Rattle.bitset.specs.Tests.{every, all}
use Rattle.bitset.specs.Tests.Laws.{both, clash, is_false, of_not_true, of_not_false, every_i, every_at, all_i, all_e}
use Rattle.bitset.specs.Sets.{has}
use Rattle.guard.specs.Level.{session_level, is_root}
use Rattle.guard.specs.Tables.{no_user, session_at, role_at, entity_at}
use Rattle.guard.specs.Label.{all_categories}
use Rattle.guard.specs.Sound.{users_in_range_in, edition_in_range, sound}
use Rattle.guard.specs.Private.Tested.{parent_by_key, live_by_key, grantable_in, ends, entity_test, own_key, role_test, session_test}
use Rattle.guard.specs.Private.Scan.{Keys, tie_test, opens_given}
use Rattle.guard.specs.Private.InForce.{user_in_range}
use Rattle.guard.specs.declared.Tables.{Tables}
use Rattle.guard.proofs.Laws.Sound.{formed_e, backed_e, sound_i}
use Rattle.guard.proofs.Laws.Sound.Facts.{Formed, RoleOk, EntityOk, parent_in}
use Rattle.guard.proofs.Given.{opens_right}
use Rattle.guard.proofs.Soundness.Climb.{climbs_root, climbs_on}
use Rattle.guard.proofs.Soundness.EntityFacts.{Settled, Known, settled, test_of, known}
use Rattle.guard.proofs.Soundness.Keys.{chains_as, own_e, own_i, live_of_key, key_small}
use Rattle.guard.proofs.Soundness.Grants.{role_e, role_i}
use Rattle.guard.proofs.Soundness.Ties.{ties_e, ties_i}
use Rattle.guard.proofs.Soundness.Opens.{Labels, session_e, session_i}

abbrev pub users_test : Tables → Bool
users_test t = all 16 (λ u. user_in_range (get_or t.users u no_user))

abbrev pub entities_test : Tables → Bool
entities_test t = all 64 (λ e. entity_test e (entity_at t e) (entity_at t ((entity_at t e).parent % 64)))

abbrev pub chains_test : List ℕ → Bool
chains_test keys = all 64 (ends (parent_by_key keys) 16)

abbrev pub names_test : List ℕ → Bool
names_test keys = all 64 (own_key keys)

abbrev pub roles_test : Tables → ℕ → Bool
roles_test t live = all 16 (λ r. role_test (grantable_in live r) r (role_at t r))

abbrev pub ties_test : Tables → ℕ → Bool
ties_test t roles = all 16 (tie_test t.roles roles)

abbrev pub sessions_test : Tables → List ℕ → ℕ → Bool
sessions_test t labels roles =
    all 16 (λ s. every (session_test labels roles t.edition (session_level s) (session_at t s) ∷ opens_given t.roles (session_at t s) ∷ []))

-- the set of the live entities, as the code takes it from the keys
abbrev pub Taken : List ℕ → ℕ → Type 0
Taken keys live = (e : ℕ) → e < 64 → has live e ≡ live_by_key keys e

-- the set of the live roles
abbrev pub LiveRoles : Tables → ℕ → Type 0
LiveRoles t roles = (k : ℕ) → k < 16 → has roles k ≡ (role_at t k).live

settled_by : (t : Tables) → entities_test t ≡ true → (k : ℕ) → k < 64 → Settled t k (entity_at t k)
settled_by t e k l = settled t k _ l (all_e 64 _ e k l)

-- ---- what the set of the live entities rests on
pub keys_small : (t : Tables) (keys : List ℕ) → Keys t.entities keys → entities_test t ≡ true → (e : ℕ) → e < 64 → get_or keys e 0 ≤ 16777216
keys_small t keys K h = key_small t keys K (λ k l. known t k _ (settled_by t h k l))

-- ---- what sound tables pass
settled_of : (t : Tables) (e : ℕ) → EntityOk all_categories t.entities e (entity_at t e) → Settled t e (entity_at t e)
settled_of t e ok = record {
  range = ok.range;
  root = ok.root;
  mark = ok.mark;
  empty = ok.empty;
  named = λ live other. (ok.placed live other).named;
  fits = λ live other. (ok.placed live other).inside.parent;
}

module _ (t : Tables) (h : sound t ≡ true) where
  ok : Formed all_categories t
  ok = formed_e t h

  pub numbers : (e : ℕ) → e < 64 → Known e (entity_at t e)
  numbers e l = known t e _ (settled_of t e (ok.entity e l))

  pub edition_pass : edition_in_range t.edition ≡ true
  edition_pass = ok.edition

  pub users_pass : users_test t ≡ true
  unfolding users_in_range_in
  users_pass = every_at _ ok.users 1

  pub entities_pass : entities_test t ≡ true
  entities_pass = all_i 64 _ (λ e l. test_of t e _ (settled_of t e (ok.entity e l)))

  pub chains_pass : (keys : List ℕ) → Keys t.entities keys → chains_test keys ≡ true
  chains_pass keys K = chains_as t keys K numbers ∙ all_i 64 _ (λ e l. go e l (entity_at t e).live refl (is_root e) refl)
    where
      go : (e : ℕ) → e < 64 → (b : Bool) → (entity_at t e).live ≡ b → (r : Bool) → is_root e ≡ r → ends (parent_in t.entities) 16 e ≡ true
      go e l b live true r = climbs_root _ _ 16 e r
      go e l true live false r = ((ok.entity e l).placed live r).inside.chain
      go e l false dead false r = climbs_on _ _ 16 e (omega arith) r ∙ rw ((numbers e l).dead dead).0 (climbs_root _ _ 15 0 refl)

  pub names_pass : (keys : List ℕ) → Keys t.entities keys → names_test keys ≡ true
  names_pass keys K = all_i 64 _ (λ e l. own_i t keys K numbers e l (λ live other. ((ok.entity e l).placed live other).own_name))

  pub roles_pass : (keys : List ℕ) (live : ℕ) → Keys t.entities keys → Taken keys live → roles_test t live ≡ true
  roles_pass keys live K L = all_i 16 _ (λ r l. role_i t live (λ e k. L e k ∙ live_of_key t keys K numbers e k) r _ (ok.role r l))

  pub ties_pass : (roles : ℕ) → LiveRoles t roles → ties_test t roles ≡ true
  ties_pass roles R = ties_i t ok.role roles R ok.ties

  pub sessions_pass : (labels : List ℕ) (roles : ℕ) → Labels t labels → LiveRoles t roles → sessions_test t labels roles ≡ true
  sessions_pass labels roles L R =
      all_i 16 _ (λ s l. every_i _ (session_i t labels L numbers roles R s _ (ok.session s l), ((opens_right t ok.role ok.ties s).1 (backed_e _ t h s l), tt)))

-- ---- a part that fails, and one that is met
pub refuted : (t : Tables) (r p : Bool) → r ≡ p → (sound t ≡ true → p ≡ true) → not r ≡ true → false ≡ sound t
refuted t r p e f h = sym (is_false (sound t) (λ k. clash p (f k) (sym e ∙ of_not_true r h)))

pub met : (r p : Bool) → r ≡ p → not r ≡ false → p ≡ true
met r p e h = sym e ∙ of_not_false r h

-- ---- tables that pass are sound
pub record Sized (t : Tables) : Type 0 where
  pub users : length t.users ≡ 16
  pub sessions : length t.sessions ≡ 16
  pub roles : length t.roles ≡ 16
  pub entities : length t.entities ≡ 64

passed : (t : Tables) (keys labels : List ℕ) (live roles : ℕ) → Sized t → Keys t.entities keys → Taken keys live → Labels t labels → LiveRoles t roles
    → edition_in_range t.edition ≡ true → users_test t ≡ true → entities_test t ≡ true → chains_test keys ≡ true → names_test keys ≡ true → roles_test t live ≡ true → ties_test t roles ≡ true → sessions_test t labels roles ≡ true
    → Formed all_categories t
unfolding users_in_range_in
passed t keys labels live roles size K L B R d u e c n r x s =
    record {
      edition = d;
      users = every_i _ (eq-eqb _ _ size.users, (u, tt));
      many_sessions = size.sessions;
      many_roles = size.roles;
      many_entities = size.entities;
      session = λ k l. session_e t labels B numbers' roles R k _ (every_at _ (all_e 16 _ s k l) 0);
      role = role';
      ties = ties_e t role' roles R x;
      entity = λ k l.
          let set = settled' k l in
          record {
            range = set.range;
            root = set.root;
            mark = set.mark;
            empty = set.empty;
            placed = λ live other.
                record {
                  named = set.named live other;
                  inside = record { parent = set.fits live other; chain = all_e 64 _ (sym (chains_as t keys K numbers') ∙ c) k l };
                  own_name = own_e t keys K numbers' k l (all_e 64 _ n k l) live other;
                };
          };
    }
  where
    settled' : (k : ℕ) → k < 64 → Settled t k (entity_at t k)
    settled' = settled_by t e

    numbers' : (k : ℕ) → k < 64 → Known k (entity_at t k)
    numbers' k l = known t k _ (settled' k l)

    role' : (k : ℕ) → k < 16 → RoleOk t.entities k (role_at t k)
    role' k l = role_e t live (λ f b. L f b ∙ live_of_key t keys K numbers' f b) k _ (all_e 16 _ r k l)

pub decided : (t : Tables) (keys labels : List ℕ) (live roles : ℕ) → Sized t → Keys t.entities keys → Taken keys live → Labels t labels → LiveRoles t roles
    → edition_in_range t.edition ≡ true → users_test t ≡ true → entities_test t ≡ true → chains_test keys ≡ true → names_test keys ≡ true → roles_test t live ≡ true → ties_test t roles ≡ true
    → (r : Bool) → r ≡ sessions_test t labels roles → r ≡ sound t
decided t keys labels live roles size K L B R d u e c n p x r s = both r (sound t) forth (λ h. s ∙ sessions_pass t h labels roles B R)
  where
    forth : r ≡ true → sound t ≡ true
    forth h =
        let all_met = sym s ∙ h in
        let ok = passed t keys labels live roles size K L B R d u e c n p x all_met in
        sound_i t ok (λ y l. (opens_right t ok.role ok.ties y).0 (every_at _ (all_e 16 _ all_met y l) 1))
