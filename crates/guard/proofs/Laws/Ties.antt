-- What ties give and take.
--     below_transitive, below_irreflexive      in sound tables below is an order
--     join_gives                               joining never takes a right away
--     unjoin_takes                             unjoining never gives one
-- A role without juniors has what its record says: `untied_has` (Juniors). "To any depth": `below_iff` (Below).
-- Assumes nothing.
use Prim.Native.Nat.{ℕ, ◌<◌}
use mathlib.Core.Path.{◌≡◌, sym, ◌∙◌}
use mathlib.Core.Bool.{true, false}
use mathlib.Core.List.{List}
use lib.ListN.{length, set}
use Rattle.bitset.specs.Tests.Laws.{is_false}
use Rattle.bitset.specs.Sets.{has, contains}
use Rattle.bitset.specs.Sets.Laws.{has_with_old, has_without}
use Rattle.guard.specs.Level.{role_count}
use Rattle.guard.specs.Tables.{no_role, role_at, is_below, rights_of, has_right}
use Rattle.guard.specs.Edits.{at_role, tie_junior, untie_junior}
use Rattle.guard.specs.Sound.{sound}
use Rattle.guard.specs.declared.Role.{Role}
use Rattle.guard.specs.declared.Tables.{Tables}
use Rattle.guard.proofs.Laws.Below.{below_trans, below_e, below_i}
use Rattle.guard.proofs.Laws.Juniors.{junior_in, gives_in, has_more}
use Rattle.guard.proofs.Laws.Sound.{formed_e}
use Rattle.guard.proofs.Laws.Told.{right_by_lem}
use Rattle.guard.proofs.Laws.Backed.{right_more}
use Rattle.guard.proofs.Kept.EachStays.{set_each}

pub below_transitive : (t : Tables) (a b c : ℕ) → a < role_count → b < role_count → is_below t a b ≡ true → is_below t b c ≡ true → is_below t a c ≡ true
below_transitive t a b c l k h g = below_i _ a c l (below_trans _ k (below_e _ a b h) (below_e _ b c g))

pub below_irreflexive : (t : Tables) → sound t ≡ true → (r : ℕ) → r < role_count → is_below t r r ≡ false
below_irreflexive t ok r l = is_false _ (λ h. (formed_e t ok).ties.no_cycle r l (below_e _ r r h))

-- ---- one role replaced: ties are one set of its record, so no right of a record changes
module _ (t : Tables) (r j : ℕ) (long : length t.roles ≡ role_count) where
  abbrev tied : List Role
  tied = set t.roles r (tie_junior j (role_at t r))

  abbrev untied : List Role
  untied = set t.roles r (untie_junior j (role_at t r))

  more_ties : (a b : ℕ) → a < 16 → b < 16 → junior_in t.roles a b ≡ true → junior_in tied a b ≡ true
  unfolding tie_junior
  more_ties a b l k =
      set_each (λ n p. junior_in t.roles n b ≡ true → has p.juniors b ≡ true) 16 t.roles no_role long r _ (λ n m ne h. h) (λ m h. has_with_old _ j b h) a l

  fewer_ties : (a b : ℕ) → a < 16 → b < 16 → junior_in untied a b ≡ true → junior_in t.roles a b ≡ true
  unfolding untie_junior
  fewer_ties a b l k =
      set_each (λ n p. has p.juniors b ≡ true → junior_in t.roles n b ≡ true) 16 t.roles no_role long r _ (λ n m ne h. h) (λ m h. (has_without _ j b h).0) a l

  -- what the records give is the same
  tied_gives : (right e a : ℕ) → a < 16 → gives_in t.roles right e a ≡ true → gives_in tied right e a ≡ true
  unfolding tie_junior rights_of
  tied_gives right e a l =
      set_each (λ n p. gives_in t.roles right e n ≡ true → contains (rights_of p e) right ≡ true) 16 t.roles no_role long r _ (λ n m ne h. h) (λ m h. h) a l

  untied_gives : (right e a : ℕ) → a < 16 → gives_in untied right e a ≡ true → gives_in t.roles right e a ≡ true
  unfolding untie_junior rights_of
  untied_gives right e a l =
      set_each (λ n p. contains (rights_of p e) right ≡ true → gives_in t.roles right e n ≡ true) 16 t.roles no_role long r _ (λ n m ne h. h) (λ m h. h) a l

  pub join_gives : (x right e : ℕ) → has_right t x right e ≡ true → has_right (at_role r (tie_junior j) t) x right e ≡ true
  unfolding at_role
  join_gives x right e h =
      right_by_lem (at_role r (tie_junior j) t) x right e
      ∙ right_more t.roles tied _ _ right e (λ a l on has_it. (on, has_more t.roles tied right e more_ties (tied_gives right e) a l has_it)) (sym (right_by_lem t x right e) ∙ h)

  pub unjoin_takes : (x right e : ℕ) → has_right (at_role r (untie_junior j) t) x right e ≡ true → has_right t x right e ≡ true
  unfolding at_role
  unjoin_takes x right e h =
      right_by_lem t x right e
      ∙ right_more untied t.roles _ _ right e (λ a l on has_it. (on, has_more untied t.roles right e fewer_ties (untied_gives right e) a l has_it))
      (sym (right_by_lem (at_role r (untie_junior j) t) x right e) ∙ h)
