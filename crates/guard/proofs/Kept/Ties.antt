-- Ties stay as soundness asks where no role gains a junior, and where `join` ties two roles.
--     fewer_ties                 no tie more, and each tie joins live roles still
--     role_ties, each_ties       one role replaced by one with no junior more; each role replaced by one with the same
--     below_joined               what is below a role after one more tie
--     joined_ties                one tie more, which closes no cycle
-- Assumes nothing.
use Prim.Native.Nat.{ℕ, ◌<◌}
use mathlib.Core.Path.{◌≡◌, refl, sym, ap, ◌∙◌}
use mathlib.Core.Bool.{true}
use mathlib.Core.List.{List, [], ◌∷◌, map}
use mathlib.Core.Logic.{◌⊎◌, inl, inr, ⊎_elim}
use lib.Dec.{eqb}
use lib.ListN.{length, set}
use Rattle.bitset.specs.Tests.{every}
use Rattle.bitset.specs.Tests.Laws.{every_i, every_at}
use Rattle.bitset.specs.Sets.{has}
use Rattle.bitset.specs.Sets.Laws.{has_with_lem}
use Rattle.guard.specs.Level.{role_level}
use Rattle.guard.specs.Tables.{no_role}
use Rattle.guard.specs.Edits.{tie_junior}
use Rattle.guard.specs.declared.Role.{Role}
use Rattle.guard.proofs.Laws.Below.{Below, direct, through, below_trans, below_more}
use Rattle.guard.proofs.Laws.Sound.{role_in, junior_in, TiesOk}
use Rattle.guard.proofs.Kept.EachStays.{set_each, map_each}

pub fewer_ties : (old new : List Role) → TiesOk old
    → ((r j : ℕ) → r < 16 → j < 16 → junior_in new r j ≡ true
    → (junior_in old r j ≡ true) × ((role_in new r).live ≡ true) × ((role_in new j).live ≡ true))
    → TiesOk new
fewer_ties old new ok fewer =
    record {
      joined = λ r j l k tie.
          let (was, here, there) = fewer r j l k tie in every_i _ (here, (there, (every_at _ (ok.joined r j l k was) 2, tt)));
      no_cycle = λ r l b. ok.no_cycle r l (below_more _ _ (λ a c l k tie. (fewer a c l k tie).0) l l b);
    }

-- of one role: it stays live where it has a tie
pub role_ties : (roles : List Role) (r : ℕ) (p : Role) → length roles ≡ 16 → TiesOk roles
    → ((j : ℕ) → j < 16 → has p.juniors j ≡ true → junior_in roles r j ≡ true)
    → ((k : ℕ) → k < 16 → (junior_in roles r k ≡ true) ⊎ (junior_in roles k r ≡ true) → (role_in roles r).live ≡ true → p.live ≡ true)
    → TiesOk (set roles r p)
role_ties roles r p long ok fewer stays = fewer_ties roles (set roles r p) ok go
  where
    was : (k : ℕ) → k < 16 → (j : ℕ) → j < 16 → junior_in (set roles r p) k j ≡ true → junior_in roles k j ≡ true
    was = set_each (λ k a. (j : ℕ) → j < 16 → has a.juniors j ≡ true → junior_in roles k j ≡ true) 16 roles no_role long r p (λ k l ne j b h. h) (λ l. fewer)

    -- a role with a tie was live, and is
    alive : (m : ℕ) → m < 16 → (role_in roles m).live ≡ true → (m ≡ r → p.live ≡ true) → (role_in (set roles r p) m).live ≡ true
    alive m l live here =
        set_each (λ k a. (role_in roles k).live ≡ true → (k ≡ r → p.live ≡ true) → a.live ≡ true) 16 roles no_role long r p (λ k l ne live here. live) (λ l live here. here refl) m l live here

    go : (k j : ℕ) → k < 16 → j < 16 → junior_in (set roles r p) k j ≡ true
        → (junior_in roles k j ≡ true) × ((role_in (set roles r p) k).live ≡ true) × ((role_in (set roles r p) j).live ≡ true)
    go k j l b tie =
        let old = was k l j b tie in
        let met = every_at _ (ok.joined k j l b old) in (
          old,
          alive k l (met 0) (λ is. stays j b (inl (rw is at old)) (rw is at (met 0))),
          alive j b (met 1) (λ is. stays k l (inr (rw is at old)) (rw is at (met 1))),
        )

-- of each role, by an edit of other fields
pub each_ties : (roles : List Role) (f : Role → Role) → length roles ≡ 16 → TiesOk roles
    → ((p : Role) → (f p).live ≡ p.live) → ((p : Role) → (f p).juniors ≡ p.juniors) → TiesOk (map f roles)
each_ties roles f long ok live juniors = fewer_ties roles (map f roles) ok go
  where
    same : (k : ℕ) → k < 16 → ((role_in (map f roles) k).live ≡ (role_in roles k).live) × ((role_in (map f roles) k).juniors ≡ (role_in roles k).juniors)
    same = map_each (λ k a. (a.live ≡ (role_in roles k).live) × (a.juniors ≡ (role_in roles k).juniors)) f 16 roles no_role long (λ k l. (live _, juniors _))

    go : (k j : ℕ) → k < 16 → j < 16 → junior_in (map f roles) k j ≡ true
        → (junior_in roles k j ≡ true) × ((role_in (map f roles) k).live ≡ true) × ((role_in (map f roles) j).live ≡ true)
    go k j l b tie =
        let old : junior_in roles k j ≡ true = ap (λ (s : ℕ). has s j) (sym (same k l).1) ∙ tie in
        let met = every_at _ (ok.joined k j l b old) in
        (old, (same k l).0 ∙ met 0, (same j b).0 ∙ met 1)

-- ---- a tie more, of r and j
module _ (roles : List Role) (r j : ℕ) (long : length roles ≡ 16) (small : r < 16) (low : j < 16) where
  abbrev joined : List Role
  joined = set roles r (tie_junior j (role_in roles r))

  -- a tie is this one, or was there
  tie_new : (a b : ℕ) → a < 16 → junior_in joined a b ≡ true → (junior_in roles a b ≡ true) ⊎ ((a ≡ r) × (b ≡ j))
  unfolding tie_junior
  tie_new a b l =
      set_each (λ k p. has p.juniors b ≡ true → (junior_in roles k b ≡ true) ⊎ ((k ≡ r) × (b ≡ j))) 16 roles no_role long r _ (λ k m ne h. inl h)
      (λ m h. ⊎_elim (λ is. inr (refl, is)) inl (has_with_lem _ j b h)) a l

  -- from a on down to r, and from j on down to b
  abbrev Over : ℕ → ℕ → Type 0
  Over a b = ((a ≡ r) ⊎ Below (junior_in roles) a r) × ((b ≡ j) ⊎ Below (junior_in roles) j b)

  pub below_joined : (a b : ℕ) → a < 16 → Below (junior_in joined) a b → Below (junior_in roles) a b ⊎ Over a b
  below_joined a b l (direct h) = ⊎_elim (λ was. inl (direct was)) (λ (here, there). inr (inl here, inl there)) (tie_new a b l h)
  below_joined a b l (through m k h f) = go (tie_new a m l h) (below_joined m b k f)
    where
      one : junior_in roles a m ≡ true → Below (junior_in roles) a m
      one = direct

      go : (junior_in roles a m ≡ true) ⊎ ((a ≡ r) × (m ≡ j)) → Below (junior_in roles) m b ⊎ Over m b → Below (junior_in roles) a b ⊎ Over a b
      go (inl was) (inl rest) = inl (through m k was rest)
      go (inl was) (inr (inl is, rest)) = inr (inr (rw is at (one was)), rest)
      go (inl was) (inr (inr up, rest)) = inr (inr (through m k was up), rest)
      go (inr (here, there)) (inl rest) = inr (inl here, inr (rw there at rest))
      go (inr (here, there)) (inr (up, rest)) = inr (inl here, rest)

  -- two live roles of one level are tied, and the senior is not below the junior
  pub joined_ties : TiesOk roles → (role_in roles r).live ≡ true → (role_in roles j).live ≡ true → eqb (role_level j) (role_level r) ≡ true
      → (r ≡ j → ⊥) → (Below (junior_in roles) j r → ⊥) → TiesOk joined
  unfolding tie_junior
  joined_ties ok live alive level two apart =
      record {
        joined = λ a b l k tie. ⊎_elim (λ was. old a b l k was) (λ (here, there). rw (here, there) new) (tie_new a b l tie);
        no_cycle = λ a l b. ⊎_elim (ok.no_cycle a l) (cycle a l) (below_joined a a l b);
      }
    where
      same : (k : ℕ) → k < 16 → (role_in joined k).live ≡ (role_in roles k).live
      same = set_each (λ k p. p.live ≡ (role_in roles k).live) 16 roles no_role long r _ (λ k l ne. refl) (λ l. refl)

      old : (a b : ℕ) → a < 16 → b < 16 → junior_in roles a b ≡ true → every ((role_in joined a).live ∷ (role_in joined b).live ∷ eqb (role_level b) (role_level a) ∷ []) ≡ true
      old a b l k was = let met = every_at _ (ok.joined a b l k was) in every_i _ (same a l ∙ met 0, (same b k ∙ met 1, (met 2, tt)))

      new : every ((role_in joined r).live ∷ (role_in joined j).live ∷ eqb (role_level j) (role_level r) ∷ []) ≡ true
      new = every_i _ (same r small ∙ live, (same j low ∙ alive, (level, tt)))

      cycle : (a : ℕ) → a < 16 → Over a a → ⊥
      cycle a l (inl here, inl there) = two (sym here ∙ there)
      cycle a l (inl here, inr down) = apart (rw here at down)
      cycle a l (inr up, inl there) = apart (rw there at up)
      cycle a l (inr up, inr down) = apart (below_trans _ l down up)
