-- The walk through the roles held and those below them.
--     Finds, HeldFinds              a role that meets a test itself or by one below it; one of the roles held that does
--     Walked, walk_start, walk_step, walk_on, walk_less     the walk: the roles gone through and those that are left; it goes on, and ends
--     walk_end, walk_roles          at its end some role gone through meets a test exactly if one held meets it, itself or by one below it
--     Unions, unions_none, unions_more, unions_all      what the roles gone through give of each right
--     given_one, met_one, untied_by, met_below     one role alone, one without juniors, and the juniors of one
--     tie_none, tie_away, tie_last  the test of the ties of one role
-- Assumes nothing.
use Prim.Native.Nat.{ℕ, ◌%◌, ◌^◌, ◌<◌}
use mathlib.Core.Path.{◌≡◌, refl, sym, ap, ◌∙◌}
use mathlib.Core.Bool.{Bool, true, false, not, ◌&&◌, ◌||◌, and-true}
use mathlib.Core.List.{List, [], ◌∷◌}
use mathlib.Core.Logic.{◌⊎◌, inl, inr, ⊎_elim}
use native.Mathlib.Decide.{ℕ_discrete}
use native.Mathlib.Nat.{mod-eq_of_lt}
use native.Mathlib.Omega.{arith}
use lib.Bits.{bit_and}
use lib.Dec.{eqb}
use borrow.Author.Tests.{eqb-true, eq-eqb}
use Rattle.bitset.specs.Tests.{every, implies, all, some}
use Rattle.bitset.specs.Tests.Laws.{both, clash, is_false, not_of_false, of_not_true, of_not_false, every_i, every_at, implies_i, all_i, some_i, some_e, or_l, or_r, or_e}
use Rattle.bitset.specs.Sets.{has, contains, with, without, join, minus}
use Rattle.bitset.specs.Sets.Laws.{has_low, has_none, has_meet, has_join, has_with_same, has_with_other, has_with_old, has_with_lem, has_either, has_minus_e, has_without_same, has_without_other, has_below, sets_ext, join_lt, with_lt, minus_le}
use Rattle.guard.specs.Level.{role_level}
use Rattle.guard.specs.Below.{below, or_below}
use Rattle.guard.specs.Private.Scan.{tie_by, met_by, tie_test, side, has_by, given, side_of, Gathered}
use Rattle.guard.specs.declared.Role.{Role}
use Rattle.guard.specs.declared.scan.Right.{Right}
use Rattle.guard.specs.declared.scan.Right.TheVariants.{Read, Write, Execute, Own}
use Rattle.guard.specs.declared.scan.Rights.{Rights}
use Rattle.guard.proofs.Laws.Below.{Below, direct, through, below_e, below_i, Meets, itself, by, meets_e, meets_i, meets_alone}
use Rattle.guard.proofs.Soundness.Members.{without_less, within_mask}
use Rattle.guard.proofs.Laws.Juniors.{role_in}

-- ---- sets
-- a set with a member more is more
pub with_more : (s i : ℕ) → has s i ≡ false → s < with s i
with_more s i out = rw same at (without_less (with s i) i (has_with_same s i))
  where
    same : without (with s i) i ≡ s
    same = sets_ext _ _ (λ j. go j (ℕ_discrete j i))
      where
        go : (j : ℕ) → Dec (j ≡ i) → has (without (with s i) i) j ≡ has s j
        go j (yes is) = rw is (has_without_same (with s i) i ∙ sym out)
        go j (no ne) = has_without_other (with s i) i j ne ∙ has_with_other s i j ne

-- ---- the walk
module _ (roles : List Role) where
  -- r, or a role below it, meets the test
  abbrev pub Finds : (ℕ → Bool) → ℕ → Type 0
  Finds p r = Meets (tie_by roles) p r

  -- one of the roles held does
  abbrev pub HeldFinds : ℕ → (ℕ → Bool) → Type 0
  HeldFinds held p = (r : ℕ) × (r < 16) × (has held r ≡ true) × Finds p r

  -- one tie further down
  down : (a b r : ℕ) → b < 16 → tie_by roles a b ≡ true → Finds (eqb a) r → Finds (eqb b) r
  down a b r l tie (itself h) = by {a = r} b l (ap (λ (n : ℕ). tie_by roles n b) (sym (eqb-true a r h)) ∙ tie) (itself (eq-eqb b b refl))
  down a b r l tie (by m k h f) = by m k h (down a b m l tie f)

  -- what meets a test, in place of its number
  finds_as : (p : ℕ → Bool) (j r : ℕ) → p j ≡ true → Finds (eqb j) r → Finds p r
  finds_as p j r met (itself h) = itself (ap p (sym (eqb-true j r h)) ∙ met)
  finds_as p j r met (by m k h f) = by m k h (finds_as p j m met f)

  -- the roles gone through, and those that are left
  pub record Walked (held done left : ℕ) : Type 0 where
    pub small : left < 2 ^ 16
    pub little : done < 2 ^ 16
    pub held_met : (j : ℕ) → has held j ≡ true → (has done j ≡ true) ⊎ (has left j ≡ true)
    pub from_held : (j : ℕ) → (has done j ≡ true) ⊎ (has left j ≡ true) → HeldFinds held (eqb j)
    pub closed : (a b : ℕ) → b < 16 → has done a ≡ true → tie_by roles a b ≡ true → (has done b ≡ true) ⊎ (has left b ≡ true)
    pub apart : (j : ℕ) → has left j ≡ true → has done j ≡ false

  pub walk_start : (held : ℕ) → held < 2 ^ 16 → Walked held 0 held
  walk_start held small =
      record {
        small = small;
        little = omega arith;
        held_met = λ j h. inr h;
        from_held = λ j. ⊎_elim (λ h. absurd (clash _ h (has_none j))) (λ h. (j, has_below 16 held j small h, h, itself (eq-eqb j j refl)));
        closed = λ a b k h. absurd (clash _ h (has_none a));
        apart = λ j h. has_none j;
      }

  module _ (held done left r : ℕ) (w : Walked held done left) (l : r < 16) (on : has left r ≡ true) where
    -- its juniors, of the sixteen roles
    abbrev juniors : ℕ
    juniors = (role_in roles r).juniors % 2 ^ 16

    sixteen : juniors < 2 ^ 16
    sixteen = omega arith

    abbrev next : ℕ
    next = join left juniors

    -- a member of next is gone through now, or left
    onward : (j : ℕ) → has next j ≡ true → (has (with done r) j ≡ true) ⊎ (has (minus next (with done r)) j ≡ true)
    onward j = has_either next (with done r) j

    of_left : (j : ℕ) → has left j ≡ true → has next j ≡ true
    of_left j h = has_join left juniors j ∙ or_l _ _ h

    of_tie : (j : ℕ) → j < 16 → tie_by roles r j ≡ true → has next j ≡ true
    of_tie j k h = has_join left juniors j ∙ or_r (has left j) _ (has_low 16 (role_in roles r).juniors j k ∙ h)

    kept : (j : ℕ) → (has done j ≡ true) ⊎ (has left j ≡ true) → (has (with done r) j ≡ true) ⊎ (has (minus next (with done r)) j ≡ true)
    kept j = ⊎_elim (λ h. inl (has_with_old done r j h)) (λ h. onward j (of_left j h))

    below_it : (j : ℕ) → has juniors j ≡ true → HeldFinds held (eqb j)
    below_it j is =
        let b = has_below 16 _ j sixteen is in
        let (a, k, h, f) = w.from_held r (inr on) in
        (a, k, h, down r j a b (sym (has_low 16 (role_in roles r).juniors j b) ∙ is) f)

    from : (j : ℕ) → (has (with done r) j ≡ true) ⊎ (has (minus next (with done r)) j ≡ true) → HeldFinds held (eqb j)
    from j (inl h) = ⊎_elim (λ is. rw is (w.from_held r (inr on))) (λ was. w.from_held j (inl was)) (has_with_lem done r j h)
    from j (inr h) =
        ⊎_elim (λ was. w.from_held j (inr was)) (below_it j) (or_e _ _ (sym (has_join left juniors j) ∙ (has_minus_e next (with done r) j h).0))

    pub walk_step : Walked held (with done r) (minus next (with done r))
    walk_step =
        record {
          small = omega (arith, minus_le next (with done r), join_lt 16 left juniors w.small sixteen);
          little = with_lt 16 done r w.little l;
          held_met = λ j h. kept j (w.held_met j h);
          from_held = from;
          closed = λ a b k h tie. ⊎_elim (λ is. onward b (of_tie b k (rw is at tie))) (λ was. kept b (w.closed a b k was tie)) (has_with_lem done r a h);
          apart = λ j h. (has_minus_e next (with done r) j h).1;
        }

    -- .. of which a role's set of two bytes holds all
    pub walk_on : (role_in roles r).juniors < 2 ^ 16 → Walked held (with done r) (minus (join left (role_in roles r).juniors) (with done r))
    walk_on small = rw (mod-eq_of_lt small) at walk_step

    pub walk_less : done < with done r
    walk_less = with_more done r (w.apart r on)

  -- ---- where none is left
  module _ (held done left : ℕ) (w : Walked held done left) (none : left ≡ 0) where
    no_left : (j : ℕ) → (has done j ≡ true) ⊎ (has left j ≡ true) → has done j ≡ true
    no_left j = ⊎_elim (λ h. h) (λ h. absurd (clash _ (rw none at h) (has_none j)))

    -- what a role gone through finds, one gone through meets
    inside : (p : ℕ → Bool) (r : ℕ) → has done r ≡ true → Finds p r → (j : ℕ) × (has done j ≡ true) × (p j ≡ true)
    inside p r h (itself met) = (r, h, met)
    inside p r h (by m k tie f) = inside p m (no_left m (w.closed r m k h tie)) f

    pub walk_end : (p : ℕ → Bool) → (b : Bool) → (b ≡ true → (j : ℕ) × (has done j ≡ true) × (p j ≡ true))
        → ((j : ℕ) → has done j ≡ true → p j ≡ true → b ≡ true)
        → b ≡ some 16 (λ r. every (has held r ∷ or_below (tie_by roles) p r ∷ []))
    walk_end p b forth back =
        both _ _
        (λ h.
        let (j, in_it, met) = forth h in
        let (r, l, on, f) = w.from_held j (inl in_it) in
        some_i 16 _ r l (every_i _ (on, (meets_i _ _ r l (finds_as p j r met f), tt))))
        (λ h.
        let (r, l, k) = some_e 16 _ h in
        let (j, in_it, met) = inside p r (no_left r (w.held_met r (every_at _ k 0))) (meets_e _ _ r (every_at _ k 1)) in
        back j in_it met)

    pub walk_roles : (j : ℕ) → has done j ≡ met_by roles held j
    unfolding met_by
    walk_roles j = walk_end (eqb j) (has done j) (λ h. (j, h, eq-eqb j j refl)) (λ i in_it is. rw (eqb-true j i is) in_it)

-- ---- what the roles gone through give
abbrev pub Union : List Role → Right → ℕ → ℕ → Type 0
Union roles right done got = (e : ℕ) → has got e ≡ some 16 (λ j. every (has done j ∷ has (side (role_in roles j) right) e ∷ []))

module _ (roles : List Role) (right : Right) where
  union_none : Union roles right 0 0
  union_none e =
      both _ _ (λ h. absurd (clash _ h (has_none e))) (λ h. let (j, l, met) = some_e 16 _ h in absurd (clash _ (every_at _ met 0) (has_none j)))

  union_more : (done got r : ℕ) → r < 16 → Union roles right done got → Union roles right (with done r) (join got (side (role_in roles r) right))
  union_more done got r l u e = has_join got (side (role_in roles r) right) e ∙ both _ _ forth back
    where
      forth : (has got e || has (side (role_in roles r) right) e) ≡ true → some 16 (λ j. every (has (with done r) j ∷ has (side (role_in roles j) right) e ∷ [])) ≡ true
      forth h =
          ⊎_elim
          (λ was. let (j, b, met) = some_e 16 _ (sym (u e) ∙ was) in some_i 16 _ j b (every_i _ (has_with_old done r j (every_at _ met 0), (every_at _ met 1, tt))))
          (λ here. some_i 16 _ r l (every_i _ (has_with_same done r, (here, tt)))) (or_e _ _ h)

      back : some 16 (λ j. every (has (with done r) j ∷ has (side (role_in roles j) right) e ∷ [])) ≡ true → (has got e || has (side (role_in roles r) right) e) ≡ true
      back h =
          let (j, b, met) = some_e 16 _ h in
          ⊎_elim (λ is. or_r (has got e) _ (rw is at (every_at _ met 1)))
          (λ was. or_l _ _ (u e ∙ some_i 16 _ j b (every_i _ (was, (every_at _ met 1, tt))))) (has_with_lem done r j (every_at _ met 0))

  union_all : (held done left got : ℕ) → Walked roles held done left → left ≡ 0 → Union roles right done got → (e : ℕ) → has got e ≡ given roles held right e
  unfolding given has_by
  union_all held done left got w none u e =
      walk_end roles held done left w none (λ j. has (side (role_in roles j) right) e) (has got e)
      (λ h. let (j, b, met) = some_e 16 _ (sym (u e) ∙ h) in (j, every_at _ met 0, every_at _ met 1))
      (λ j in_it met. u e ∙ some_i 16 _ j (has_below 16 done j w.little in_it) (every_i _ (in_it, (met, tt))))

-- of each right
abbrev pub Unions : List Role → Rights → Type 0
Unions roles g = (right : Right) → Union roles right g.roles (side_of g right)

pub unions_none : (roles : List Role) (g : Rights)
    → g.reads ≡ 0 → g.writes ≡ 0 → g.executes ≡ 0 → g.owns ≡ 0 → g.roles ≡ 0 → Unions roles g
unions_none roles g reads writes executes owns none Read = rw (reads, none) (union_none roles Read)
unions_none roles g reads writes executes owns none Write = rw (writes, none) (union_none roles Write)
unions_none roles g reads writes executes owns none Execute = rw (executes, none) (union_none roles Execute)
unions_none roles g reads writes executes owns none Own = rw (owns, none) (union_none roles Own)

-- g with what role r has
abbrev pub gathering : Role → ℕ → Rights → Rights
gathering p r g =
    record {
      reads = join g.reads p.reads;
      writes = join g.writes p.writes;
      executes = join g.executes p.executes;
      owns = join g.owns p.owns;
      roles = with g.roles r;
    }

pub unions_more : (roles : List Role) (g : Rights) (r : ℕ) → r < 16 → Unions roles g → Unions roles (gathering (role_in roles r) r g)
unions_more roles g r l u Read = union_more roles Read g.roles g.reads r l (u Read)
unions_more roles g r l u Write = union_more roles Write g.roles g.writes r l (u Write)
unions_more roles g r l u Execute = union_more roles Execute g.roles g.executes r l (u Execute)
unions_more roles g r l u Own = union_more roles Own g.roles g.owns r l (u Own)

pub unions_all : (roles : List Role) (held left : ℕ) (g : Rights) → Walked roles held g.roles left → left ≡ 0 → Unions roles g → Gathered roles held g
unions_all roles held left g w none u =
    record { sets = λ right. union_all roles right held g.roles left (side_of g right) w none (u right); met = λ j l. walk_roles roles held g.roles left w none j }

-- ---- one role alone
only_one : (r b : ℕ) → has (with 0 r) b ≡ true → b ≡ r
only_one r b h = ⊎_elim (λ is. is) (λ m. absurd (clash _ m (has_none b))) (has_with_lem 0 r b h)

-- a test asked of the members of the set of one
asked_one : (f : ℕ → Bool) (r : ℕ) → r < 16 → some 16 (λ b. every (has (with 0 r) b ∷ f b ∷ [])) ≡ f r
asked_one f r l =
    both _ _ (λ h. let (b, k, met) = some_e 16 _ h in ap f (sym (only_one r b (every_at _ met 0))) ∙ every_at _ met 1)
    (λ h. some_i 16 _ r l (every_i _ (has_with_same 0 r, (h, tt))))

module _ (roles : List Role) (r : ℕ) (l : r < 16) where
  pub given_one : (right : Right) (e : ℕ) → given roles (with 0 r) right e ≡ has_by roles right e r
  unfolding given
  given_one right e = asked_one (has_by roles right e) r l

  pub met_one : (j : ℕ) → met_by roles (with 0 r) j ≡ or_below (tie_by roles) (eqb j) r
  unfolding met_by
  met_one j = asked_one (or_below (tie_by roles) (eqb j)) r l

  -- without juniors it has what its own sets have
  pub untied_by : (role_in roles r).juniors ≡ 0 → (right : Right) (e : ℕ) → has_by roles right e r ≡ has (side (role_in roles r) right) e
  unfolding has_by
  untied_by none right e = meets_alone (tie_by roles) (λ j. has (side (role_in roles j) right) e) r (λ m tie. clash _ (rw none at tie) (has_none m))

  -- what the juniors of r meet is what is below it
  pub met_below : (j : ℕ) → j < 16 → met_by roles (role_in roles r).juniors j ≡ below (tie_by roles) r j
  unfolding met_by
  met_below j b = both _ _ forth back
    where
      -- a tie, and what its junior finds
      under : (a m : ℕ) → m < 16 → tie_by roles a m ≡ true → Finds roles (eqb j) m → Below (tie_by roles) a j
      under a m k tie (itself is) = direct {b = j} (ap (tie_by roles a) (eqb-true j m is) ∙ tie)
      under a m k tie (by n c more f) = through m k tie (under m n c more f)

      forth : some 16 (λ a. every (has (role_in roles r).juniors a ∷ or_below (tie_by roles) (eqb j) a ∷ [])) ≡ true → below (tie_by roles) r j ≡ true
      forth h = let (a, k, met) = some_e 16 _ h in below_i _ r j l (under r a k (every_at _ met 0) (meets_e _ _ a (every_at _ met 1)))

      found : {a : ℕ} → Below (tie_by roles) a j → (m : ℕ) × (m < 16) × (tie_by roles a m ≡ true) × Finds roles (eqb j) m
      found (direct tie) = (j, b, tie, itself (eq-eqb j j refl))
      found (through m k tie f) = let (n, c, more, g) = found f in (m, k, tie, by n c more g)

      back : below (tie_by roles) r j ≡ true → some 16 (λ a. every (has (role_in roles r).juniors a ∷ or_below (tie_by roles) (eqb j) a ∷ [])) ≡ true
      back h = let (m, k, tie, f) = found (below_e _ r j h) in some_i 16 _ m k (every_i _ (tie, (meets_i _ _ m k f, tt)))

  -- the test of soundness: no junior; or the juniors are among those that may be, and r is not met on the way down
  pub tie_none : (live : ℕ) → (role_in roles r).juniors ≡ 0 → true ≡ tie_test roles live r
  unfolding tie_test
  tie_none live none = sym (every_i _ (all_i 16 _ (λ j k. implies_i _ _ (λ tie. absurd (no j tie))), (not_of_false _ (is_false _ (λ h. below_none (below_e _ r r h))), tt)))
    where
      no : (j : ℕ) → tie_by roles r j ≡ true → ⊥
      no j tie = clash _ (rw none at tie) (has_none j)

      below_none : Below (tie_by roles) r r → ⊥
      below_none (direct tie) = no r tie
      below_none (through m k tie f) = no m tie

  module _ (live mask : ℕ) (same : (j : ℕ) → j < 16 → has mask j ≡ eqb (role_level j) (role_level r)) (small : (role_in roles r).juniors < 2 ^ 16) where
    members_as : (c : Bool) → c ≡ contains (bit_and live mask) (role_in roles r).juniors
        → c ≡ all 16 (λ j. implies (tie_by roles r j) (every (has live j ∷ eqb (role_level j) (role_level r) ∷ [])))
    unfolding every
    members_as c h = h ∙ within_mask 16 _ _ _ (small) (λ j k. has_meet live mask j ∙ ap (λ (b : Bool). has live j && b) (same j k) ∙ ap (λ (b : Bool). has live j && b) (sym (and-true _)))

    pub tie_away : (c : Bool) → c ≡ contains (bit_and live mask) (role_in roles r).juniors → not c ≡ true → false ≡ tie_test roles live r
    unfolding tie_test
    tie_away c h away = sym (is_false _ (λ met. clash _ (members_as c h ∙ every_at _ met 0) (of_not_true c away)))

    pub tie_last : (c d : Bool) → c ≡ contains (bit_and live mask) (role_in roles r).juniors → not c ≡ false → d ≡ met_by roles (role_in roles r).juniors r → not d ≡ tie_test roles live r
    unfolding tie_test every
    tie_last c d h inside is = rw (sym (members_as c h), of_not_false c inside, sym (met_below r l), sym is) (sym (and-true (not d)))
