-- Arrays that `from_fn` makes of the records of another: `taken`, each is what f makes of the one at its place. Assumes nothing.
use Prim.Native.Nat.{ℕ}
use denote.Param.Members.{Mut, Called}
use mathlib.Core.Path.{◌≡◌, sym, ◌∙◌}
use mathlib.Core.List.{List, map}
use lib.ListN.{length, get_or, length-map, get_or-map}
use lib.Seq.{ext_get_or}
use Rattle.std.specs.Array.{IsFromFnResult}
use Rattle.guard.proofs.Filling.{made_at}

pub taken : {F A B : Type 0} (g : Mut F (ℕ × Unit {0}) B) (f : A → B) (s : F) (xs : List A) (ys : List B) (d : A) (n : ℕ)
    → length xs ≡ n → ((i : ℕ) (y : B) (q : F) → Called g s (i, tt) y q → (q ≡ s) × (y ≡ f (get_or xs i d))) → IsFromFnResult g s ys n → ys ≡ map f xs
taken g f s xs ys d n long each made =
    ext_get_or (f d) ys (map f xs) (made.long ∙ sym (length-map xs f ∙ long)) (λ i h.
    made_at g (λ k. f (get_or xs k d)) s ys each n made i (f d) (rw made.long at h) ∙ sym (get_or-map f xs i d))
