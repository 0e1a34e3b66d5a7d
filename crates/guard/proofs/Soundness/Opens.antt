-- A session that passes its test is as soundness asks, where the labels of the entities are known.
--     Labels                    the label of each live entity as one number, above all for what is not live
--     session_e, session_i      the test says SessionOk, and no more
-- Assumes nothing.
use Prim.Native.Nat.{ℕ, ◌+◌, ◌*◌, ◌%◌, ◌^◌, ◌≤◌, ◌<◌}
use mathlib.Core.Bool.{Bool, true, false, cond}
use mathlib.Core.List.{List, [], ◌∷◌}
use mathlib.Core.Path.{◌≡◌, refl, sym, ◌∙◌}
use native.Mathlib.Omega.{arith}
use lib.Dec.{leb, eqb}
use lib.ListN.{get_or}
use borrow.Author.Tests.{eqb-true, leb-true, ltb-true, eq-eqb, le-leb, lt-leb, lt-ltb}
use Rattle.bitset.specs.Tests.{every}
use Rattle.bitset.specs.Tests.Laws.{both, clash, every_i, every_at, implies_i, implies_e, all_i, all_e}
use Rattle.bitset.specs.Sets.{has, contains}
use Rattle.bitset.specs.Sets.Laws.{has_none, has_below, contains_has, has_contains}
use Rattle.guard.specs.Level.{session_level}
use Rattle.guard.specs.Label.{all_categories, label_in_range, dominates, same_label}
use Rattle.guard.specs.Tables.{role_at, entity_at}
use Rattle.guard.specs.Sound.{session_in_range_in, is_empty_session}
use Rattle.guard.specs.Private.Tested.{session_test, label_number}
use Rattle.guard.specs.Private.InForce.{session_in_range}
use Rattle.guard.specs.declared.Label.{Label}
use Rattle.guard.specs.declared.Session.{Session}
use Rattle.guard.specs.declared.Entity.{Entity}
use Rattle.guard.specs.declared.Tables.{Tables}
use Rattle.guard.proofs.Laws.Label.{grade_in, cats_in}
use Rattle.guard.proofs.Laws.Sound.Facts.{SessionOk, SetOk}
use Rattle.guard.proofs.Soundness.Tests.{cond_yes, cond_no, yes_e, no_e}
use Rattle.guard.proofs.Soundness.EntityFacts.{Known, zero_label}

abbrev pub Labels : Tables → List ℕ → Type 0
Labels t labels = (e : ℕ) → e < 64 → get_or labels e 0 ≡ label_number (entity_at t e)

-- ---- a label against the number of an entity's
module _ (l : Label) (g : ℕ) (c : ℕ) (l_small : l.grade ≤ 3) (c_small : c < 65536) where
  below_as : (live : Bool) → every (leb (cond live (g * 65536 + c) 16777216) (l.grade * 65536 + 65535) ∷ contains l.cats (cond live (g * 65536 + c) 16777216 % 65536) ∷ [])
      ≡ every (live ∷ every (leb g l.grade ∷ contains l.cats c ∷ []) ∷ [])
  below_as true =
      let low : (g * 65536 + c) % 65536 ≡ c = omega arith in
      both _ _ (λ h. every_i _ (refl, (every_i _ (le-leb g l.grade (omega (arith, leb-true (g * 65536 + c) (l.grade * 65536 + 65535) (every_at _ h 0))), (rw low at (every_at _ h 1), tt)), tt)))
      (λ h. let d = every_at _ (every_at _ h 1) in every_i _ (le-leb (g * 65536 + c) (l.grade * 65536 + 65535) (omega (arith, leb-true g l.grade (d 0))), (rw low (d 1), tt)))
  below_as false =
      both _ _ (λ h. absurd (clash _ (every_at _ h 0) (lt-leb 16777216 (l.grade * 65536 + 65535) (omega arith)))) (λ h. absurd (clash false (every_at _ h 0) refl))

  same_as : (live : Bool) → l.cats < 65536 → eqb (cond live (g * 65536 + c) 16777216) (l.grade * 65536 + l.cats)
      ≡ every (live ∷ every (eqb l.grade g ∷ eqb l.cats c ∷ []) ∷ [])
  same_as true b =
      both _ _ (λ h. let q = eqb-true (g * 65536 + c) (l.grade * 65536 + l.cats) h in
      every_i _ (refl, (every_i _ (eq-eqb l.grade g (omega arith), (eq-eqb l.cats c (omega arith), tt)), tt)))
      (λ h. let d = every_at _ (every_at _ h 1) in eq-eqb (g * 65536 + c) (l.grade * 65536 + l.cats) (omega (arith, eqb-true l.grade g (d 0), eqb-true l.cats c (d 1))))
  same_as false b =
      both _ _ (λ h. absurd (omega (arith, eqb-true 16777216 (l.grade * 65536 + l.cats) h))) (λ h. absurd (clash false (every_at _ h 0) refl))

below_is : (l : Label) (n : Entity) (v : ℕ) → v ≡ label_number n → l.grade ≤ 3 → n.label.cats < 65536
    → every (leb v (l.grade * 65536 + 65535) ∷ contains l.cats (v % 65536) ∷ []) ≡ every (n.live ∷ dominates l n.label ∷ [])
unfolding dominates
below_is l n v e p q = rw e (below_as l _ _ p q n.live)

same_is : (l : Label) (n : Entity) (v : ℕ) → v ≡ label_number n → l.grade ≤ 3 → n.label.cats < 65536 → l.cats < 65536
    → eqb v (l.grade * 65536 + l.cats) ≡ every (n.live ∷ same_label l n.label ∷ [])
unfolding same_label
same_is l n v e p q b = rw e (same_as l _ _ p q n.live b)

-- ---- the label of a session
cats_small : (l : Label) → label_in_range l ≡ true → l.cats < 65536
cats_small l h = let b = cats_in all_categories l h in omega arith

no_members : (w : ℕ) (live : Bool) (Q : ℕ → Bool) (s : ℕ) → 0 < 2 ^ w → s ≡ 0 → SetOk w live Q s
no_members w live Q s p z = record { small = rw z p; none = λ d. z; members = λ i l m. absurd (clash (has 0 i) (rw z at m) (has_none i)) }

module _ (t : Tables) (labels : List ℕ) (L : Labels t labels) (N : (e : ℕ) → e < 64 → Known e (entity_at t e))
    (roles : ℕ) (R : (k : ℕ) → k < 16 → has roles k ≡ (role_at t k).live) (s : ℕ) (x : Session) where
  pub session_e : session_test labels roles t.edition (session_level s) x ≡ true → SessionOk all_categories t.edition t.roles t.entities s x
  unfolding session_in_range_in is_empty_session
  session_e h = go x.live refl
    where
      go : (b : Bool) → x.live ≡ b → SessionOk all_categories t.edition t.roles t.entities s x
      go true live =
          let test = every_at _ (yes_e x.live _ _ live h) in
          let range = every_at _ (test 0) in
          let levels = every_at _ (test 2) in
          let opened = every_at _ (test 3) in
          let g = grade_in all_categories x.label (range 1) in
          let c = cats_small x.label (range 1) in
          record {
            user = ltb-true _ _ (range 0);
            label = range 1;
            empty = λ d. absurd (clash _ live d);
            held = record {
              small = ltb-true _ _ (range 2);
              none = λ d. absurd (clash _ live d);
              members = λ k l m. sym (R k l) ∙ contains_has _ _ (test 1) k m;
            };
            reading = record {
              small = ltb-true _ _ (range 3);
              none = λ d. absurd (clash _ live d);
              members = λ e l m.
                  let seen = every_at _ (sym (below_is x.label (entity_at t e) _ (L e l) g (N e l).cats) ∙ implies_e _ _ (all_e 64 _ (opened 0) e l) m) in
                  every_i _ (seen 0, (implies_i _ _ (λ k. implies_e _ _ (all_e 64 _ (implies_e _ _ (levels 0) k) e l) m), (seen 1, tt)));
            };
            writing = record {
              small = ltb-true _ _ (range 4);
              none = λ d. absurd (clash _ live d);
              members = λ e l m.
                  let seen = every_at _ (sym (same_is x.label (entity_at t e) _ (L e l) g (N e l).cats c) ∙ implies_e _ _ (all_e 64 _ (opened 1) e l) m) in
                  every_i _ (seen 0, (implies_e _ _ (all_e 64 _ (levels 1) e l) m, (seen 1, tt)));
            };
          }
      go false dead =
          let none = every_at _ (no_e x.live _ _ dead h) in
          let user = eqb-true x.user 0 (none 0) in
          record {
            user = omega arith;
            label = zero_label x.label (none 1);
            empty = λ d. (user, none 1);
            held = no_members 16 _ _ _ (omega arith) (eqb-true _ _ (none 2));
            reading = no_members 64 _ _ _ (omega arith) (eqb-true _ _ (none 3));
            writing = no_members 64 _ _ _ (omega arith) (eqb-true _ _ (none 4));
          }

  pub session_i : SessionOk all_categories t.edition t.roles t.entities s x → session_test labels roles t.edition (session_level s) x ≡ true
  unfolding session_in_range_in is_empty_session
  session_i ok = go x.live refl
    where
      g : x.label.grade ≤ 3
      g = grade_in all_categories x.label ok.label

      range : session_in_range x ≡ true
      range =
          every_i _
          (lt-ltb _ _ ok.user, (ok.label, (lt-ltb _ _ ok.held.small, (lt-ltb _ _ ok.reading.small, (lt-ltb _ _ ok.writing.small, tt)))))

      go : (b : Bool) → x.live ≡ b → session_test labels roles t.edition (session_level s) x ≡ true
      go true live =
          sym (cond_yes x.live _ _ _ live (sym (every_i _ (
            range,
            (
              has_contains _ _ (λ k m. let l = has_below 16 _ k ok.held.small m in R k l ∙ ok.held.members k l m),
              (
                every_i _ (
                  implies_i _ _ (λ k. all_i 64 _ (λ e l. implies_i _ _ (λ m. implies_e _ _ (every_at _ (ok.reading.members e l m) 1) k))),
                  (all_i 64 _ (λ e l. implies_i _ _ (λ m. every_at _ (ok.writing.members e l m) 1)), tt),
                ),
                (
                  every_i _ (
                    all_i 64 _ (λ e l. implies_i _ _ (λ m.
                        let seen = every_at _ (ok.reading.members e l m) in
                        below_is x.label (entity_at t e) _ (L e l) g (N e l).cats ∙ every_i _ (seen 0, (seen 2, tt)))),
                    (
                      all_i 64 _ (λ e l. implies_i _ _ (λ m.
                          let seen = every_at _ (ok.writing.members e l m) in
                          same_is x.label (entity_at t e) _ (L e l) g (N e l).cats (cats_small x.label ok.label) ∙ every_i _ (seen 0, (seen 2, tt)))),
                      tt,
                    ),
                  ),
                  tt,
                ),
              ),
            ),
          ))))
      go false dead =
          let (user, label) = ok.empty dead in
          sym (cond_no x.live _ _ _ dead (sym (every_i _
          (eq-eqb _ _ user, (label, (eq-eqb _ _ (ok.held.none dead), (eq-eqb _ _ (ok.reading.none dead), (eq-eqb _ _ (ok.writing.none dead), tt))))))))
