-- One morning's requests: the definitions give the paper's answers to K1 to K14, and the role that one of them tells, by computing.
-- Assumes nothing.
use Rattle.std.specs.Prelude.{Some, None}
use Prim.Native.Nat.{ℕ}
use mathlib.Core.Path.{◌≡◌, refl}
use mathlib.Core.List.{List, [], ◌∷◌, ◌++◌, map}
use lib.ListN.{replicate}
use Rattle.guard.specs.Label.{label}
use Rattle.guard.specs.Tables.{edition1, no_user}
use Rattle.guard.specs.Fresh.{fresh}
use Rattle.guard.specs.Step.{answers, roles_told}
use Rattle.guard.specs.Kind.{login, take, openr, openw, create, delete, rename}
use Rattle.guard.specs.Methods.{request}
use Rattle.guard.specs.declared.User.{User}
use Rattle.guard.specs.declared.Request.{Request}
use Rattle.guard.proofs.Compute.{computing}

-- user 0 has ceiling 3, clearance 3/255; user 1 ceiling 1, clearance 1/0; the rest 0.
unfoldable pub morning_users : List User
morning_users =
    record { ceiling = 3; clearance = label 3 255 }
    ∷ record { ceiling = 1; clearance = label 1 0 }
    ∷ replicate 14 no_user

-- one row: a request, and the answer that the paper gives it
pub record Row : Type 0 where
  pub request : Request
  pub expected : ℕ

-- All labels asked for are 0/0.
abbrev pub row : ℕ → ℕ → ℕ → ℕ → ℕ → ℕ → ℕ → ℕ → ℕ → Row
row call seat user role entity parent kind name expected =
    record { request = request call seat user role entity parent kind name 0 0 0 0 0; expected = expected }

-- K1 to K14 run in order from fresh tables. The columns: call, seat, user, role, entity, parent, kind, name; the answer.
unfoldable pub morning : List Row
morning =
    row login 12 0 0 0 0 0 0 0  -- K1 login 12, user 0: 0.
    ∷ row login 13 1 0 0 0 0 0 4  -- K2 login 13, user 1: 4.
    ∷ row login 4 1 0 0 0 0 0 0  -- K3 login 4, user 1: 0.
    ∷ row take 12 0 12 0 0 0 0 0  -- K4 take 12, role 12: 0.
    ∷ row take 4 0 12 0 0 0 0 12  -- K5 take 4, role 12: 12.
    ∷ row openw 12 0 0 48 0 0 0 0  -- K6 openw 12, 48: 0.
    ∷ row openr 4 0 0 48 0 0 0 13  -- K7 openr 4, 48: 13.
    ∷ row openw 4 0 0 48 0 0 0 10  -- K8 openw 4, 48: 10.
    ∷ row create 12 0 12 49 48 0 7 0  -- K9 create by 12 of object 49 in 48, name 7, role 12: 0.
    ∷ row create 12 0 12 50 48 0 7 14  -- K10 the same for 50: 14.
    ∷ row create 12 0 12 33 48 0 7 10  -- K11 the same for 33: 10.
    ∷ row delete 12 0 0 48 0 0 0 6  -- K12 delete 12, 48: 6.
    ∷ row rename 12 0 0 49 0 0 7 14  -- K13 rename by 12 of 49 to 7: 14.
    ∷ row delete 12 0 0 49 0 0 0 0  -- K14 delete by 12 of 49: 0.
    ∷ []

pub morning_answers : answers (fresh morning_users edition1) (map (λ (r : Row). r.request) morning) ≡ map (λ (r : Row). r.expected) morning
unfolding computing morning_users morning
morning_answers = refl

-- Of these K6 alone is an openw or openr that is done: it tells the keeper of level 3.
pub morning_roles : roles_told (fresh morning_users edition1) (map (λ (r : Row). r.request) morning) ≡ replicate 5 None ++ (Some 12 ∷ replicate 8 None)
unfolding computing morning_users morning
morning_roles = refl
