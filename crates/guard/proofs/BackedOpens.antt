-- What the rights gathered over the roles held tell of the opens of a session.
--     kept_of          the members of a set that a mask has are what `keeping` leaves of it
--     opens_given_lem      the tests by mask are `opens_given`
--     opens_kept       the session with the opens that the masks leave is `backed_by`
--     lost_as          what a role lost, by the sets of it and of its juniors
-- Assumes nothing.
use Prim.Native.Nat.{ℕ, ◌^◌, ◌<◌}
use mathlib.Core.Bool.{Bool, true, false, ◌&&◌, ◌||◌}
use mathlib.Core.List.{List}
use mathlib.Core.Path.{◌≡◌, refl, ap, ◌∙◌}
use native.Mathlib.Omega.{arith}
use lib.Bits.{bit_and, and_le_l}
use Rattle.bitset.specs.Tests.{either}
use Rattle.bitset.specs.Tests.Laws.{or_l, or_r}
use Rattle.bitset.specs.Sets.{has, contains, join, minus, keeping}
use Rattle.bitset.specs.Sets.Laws.{has_meet, has_join, has_minus}
use Rattle.bitset.specs.Sets.Keeping.{keeping_is}
use Rattle.guard.specs.Edits.{opening}
use Rattle.guard.specs.Private.Scan.{side, given, Gathered, opens_given, backed_by, has_with, Lost}
use Rattle.guard.specs.declared.Session.{Session}
use Rattle.guard.specs.declared.Role.{Role}
use Rattle.guard.specs.declared.scan.Right.{Right}
use Rattle.guard.specs.declared.scan.Right.TheVariants.{Read, Write}
use Rattle.guard.specs.declared.scan.Rights.{Rights}
use Rattle.guard.proofs.Soundness.Tests.{and_two}
use Rattle.guard.proofs.Soundness.Members.{within_mask}

pub kept_of : (p : ℕ → Bool) (s m : ℕ) → s < 2 ^ 64 → ((e : ℕ) → has m e ≡ p e) → bit_and s m ≡ keeping 64 p s
kept_of p s m small f =
    keeping_is p s 64 (bit_and s m) small (omega (arith, and_le_l s m)) (λ i l. has_meet s m i ∙ ap (λ (b : Bool). has s i && b) (f i))

module _ (roles : List Role) (s : Session) (g : Rights) (r : s.reading < 2 ^ 64) (w : s.writing < 2 ^ 64)
    (G : Gathered roles s.roles g) where
  pub opens_given_lem : (a b : Bool) → a ≡ contains g.reads s.reading → b ≡ contains g.writes s.writing
      → (a && b) ≡ opens_given roles s
  unfolding opens_given
  opens_given_lem a b h k =
      and_two a b _ _ (h ∙ within_mask 64 _ _ _ r (λ e l. G.sets Read e)) (k ∙ within_mask 64 _ _ _ w (λ e l. G.sets Write e))

  pub opens_kept : opening (bit_and s.reading g.reads) (bit_and s.writing g.writes) s ≡ backed_by roles s
  unfolding backed_by
  opens_kept = rw (kept_of _ s.reading g.reads r (G.sets Read), kept_of _ s.writing g.writes w (G.sets Write))

-- ---- what a role lost, by what it and its juniors had before and have now
module _ (roles : List Role) (old new : Role) (before after : Rights) (B : Gathered roles old.juniors before) (A : Gathered roles new.juniors after) where
  -- of one of the two sets
  lost_in : (right : Right) (a b c d l : ℕ) → a ≡ side old right → c ≡ side new right → ((e : ℕ) → has b e ≡ given roles old.juniors right e) → ((e : ℕ) → has d e ≡ given roles new.juniors right e)
      → l ≡ minus (join a b) (join c d) → (e : ℕ) → has_with roles old right e ≡ true → has_with roles new right e ≡ false → has l e ≡ true
  unfolding either
  lost_in right a b c d l is now had has_it h e was gone = ap (λ (n : ℕ). has n e) h ∙ has_minus (join a b) (join c d) e ∙ rw (in_old, out_new)
    where
      old_sides : (has a e || has b e) ≡ true
      old_sides = rw (is, had e) was

      new_sides : (has c e || has d e) ≡ false
      new_sides = rw (now, has_it e) gone

      in_old : has (join a b) e ≡ true
      in_old = has_join a b e ∙ old_sides

      out_new : has (join c d) e ≡ false
      out_new = has_join c d e ∙ new_sides

  pub lost_as : (r w : ℕ) → r ≡ minus (join old.reads before.reads) (join new.reads after.reads) → w ≡ minus (join old.writes before.writes) (join new.writes after.writes)
      → Lost roles old new (join r w)
  lost_as r w hr hw =
      record {
        reads = λ e had gone. has_join r w e ∙ or_l _ _ (lost_in Read _ _ _ _ r refl refl (B.sets Read) (A.sets Read) hr e had gone);
        writes = λ e had gone. has_join r w e ∙ or_r (has r e) _ (lost_in Write _ _ _ _ w refl refl (B.sets Write) (A.sets Write) hw e had gone);
      }
