-- Ties deeper than one, computed on the definitions: role 15 reads and writes entity 48, and has seniors to the depth of three.
--     chain_rights            of a chain of four, the rights of the last through the first, told as the one that is held
--     chain_cycles            a tie that would close a cycle of one, two, three or four roles
--     chain_cut               untied in the middle, the first keeps nothing of them, and the opens that rested on them end
--     diamond_kept, diamond_cut       by two ways: with one of them untied nothing is lost, with both everything
-- Assumes nothing.
use Rattle.std.specs.Prelude.{Some, None}
use Prim.Native.Nat.{ℕ}
use mathlib.Core.Path.{◌≡◌, refl}
use mathlib.Core.Bool.{Bool, true, false}
use Rattle.bitset.specs.Sets.{with}
use Rattle.guard.specs.Tables.{edition1, holds, is_reading, is_writing, is_below, read, write, own, role_for, has_right}
use Rattle.guard.specs.Edits.{at_session, at_role, holding, opening, tying, granting, made_role}
use Rattle.guard.specs.Fresh.{fresh}
use Rattle.guard.specs.Conditions.{closes_cycle}
use Rattle.guard.specs.Requests.{unjoin, logged_in}
use Rattle.guard.specs.Methods.{login_request, tie_request}
use Rattle.guard.specs.Kind as kind
use Rattle.guard.specs.declared.Tables.{Tables}
use Rattle.guard.proofs.Compute.{computing}
use Rattle.worked.proofs.Morning.{morning_users}

-- roles 13, 14 and 15 with such juniors, and role 12; 15 has read and write on entity 48. Session 12 holds role `held`, and has 48 open
-- both ways
unfoldable pub tables : ℕ → ℕ → ℕ → ℕ → Tables
tables of12 of13 of14 held =
    at_session 12 (λ old. opening (with 0 48) (with 0 48) (holding (with 0 held) (logged_in (login_request 12 0 0 0))))
    (at_role 12 (λ old. tying of12 made_role)
    (at_role 13 (λ old. tying of13 made_role)
    (at_role 14 (λ old. tying of14 made_role)
    (at_role 15 (λ old. granting 48 3 made_role)
    (fresh morning_users edition1)))))

-- 12 over 13 over 14 over 15
unfoldable pub chain : Tables
chain = tables (with 0 13) (with 0 14) (with 0 15) 12

-- 12 over 13 and 14, both over 15
unfoldable pub diamond : Tables
diamond = tables (with (with 0 13) 14) (with 0 15) (with 0 15) 12

pub chain_rights : (is_below chain 12 15 ≡ true) × (role_for chain 12 read 48 ≡ Some 12) × (role_for chain 12 write 48 ≡ Some 12) × (role_for chain 12 own 48 ≡ None)
unfolding computing tables chain
chain_rights = (refl, refl, refl, refl)

-- join of senior s and junior j
abbrev closes : Tables → ℕ → ℕ → Bool
closes t s j = closes_cycle t (tie_request kind.join 12 s j)

pub chain_cycles : (closes chain 12 12 ≡ true) × (closes chain 13 12 ≡ true) × (closes chain 14 12 ≡ true) × (closes chain 15 12 ≡ true) × (closes chain 12 15 ≡ false)
unfolding computing tables chain
chain_cycles = (refl, refl, refl, refl, refl)

-- 14 untied from 13, by the effect of unjoin
unfoldable pub cut : Tables
cut = unjoin.effect (tie_request kind.unjoin 12 13 14) chain

pub chain_cut : (has_right cut 12 read 48 ≡ false) × (is_reading cut 12 48 ≡ false) × (is_writing cut 12 48 ≡ false) × (holds cut 12 12 ≡ true)
unfolding computing tables chain cut
chain_cut = (refl, refl, refl, refl)

-- 15 untied from 13, and then from 14 too
unfoldable pub once : Tables
once = unjoin.effect (tie_request kind.unjoin 12 13 15) diamond

unfoldable pub twice : Tables
twice = unjoin.effect (tie_request kind.unjoin 12 14 15) once

pub diamond_kept : (has_right once 12 read 48 ≡ true) × (is_reading once 12 48 ≡ true) × (is_writing once 12 48 ≡ true)
unfolding computing tables diamond once
diamond_kept = (refl, refl, refl)

pub diamond_cut : (has_right twice 12 read 48 ≡ false) × (is_reading twice 12 48 ≡ false) × (is_writing twice 12 48 ≡ false)
unfolding computing tables diamond once twice
diamond_cut = (refl, refl, refl)
