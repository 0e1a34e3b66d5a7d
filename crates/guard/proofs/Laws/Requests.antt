-- The nineteen requests against the papers' lists of numbers.
--     applying        the numbers that apply to each request, in the order of the nineteen, as the papers' lines have them
--     order, place    the order of all numbers
--     apart, rising   .. with 1 and 2 before them they are distinct and none is 0, and they rise in that order
--     answer_none, answer_leads   0 exactly when no condition is met, and n exactly when n's is met and none before it
--     answer_lowest, answer_met   the answer is the first number of the order that applies and whose condition is met
--     numbered        the rule at each number that has a name (Kind) is the request of that name
--     unknown_answer  a request of none of the nineteen kinds: 2 on sound tables
--     unsound_answer  unsound tables: 1, whatever is asked
-- Assumes nothing.
use Prim.Native.Nat.{ℕ, suc, ◌≤◌}
use mathlib.Core.Path.{◌≡◌, refl}
use mathlib.Core.Bool.{true, false, not, cond, and-false}
use mathlib.Core.List.{List, [], ◌∷◌, map}
use mathlib.Core.Logic.{◌↔◌}
use lib.Dec.{ltb, eqb}
use lib.ListN.{get_or, get_or-eq_default}
use borrow.Author.Tests.{le-ltb}
use Rattle.bitset.specs.Tests.{every}
use Rattle.guard.specs.Sound.{sound}
use Rattle.guard.specs.Refusals.{Refusal, ◌when◌, first}
use Rattle.guard.specs.Requests.{Rule, field_in_range_in, request_count, login, logout, take, drop, openr, openw, close, create, delete, rename, grant, revoke, list, unlist, make, unmake, share, join, unjoin, unknown, rules, rule_of}
use Rattle.guard.specs.Step.{in_ranges_in, answer, answer_in}
use Rattle.guard.specs.Kind as kind
use Rattle.guard.specs.Private.InForce.{field_in_range, in_ranges}
use Rattle.guard.specs.declared.Tables.{Tables}
use Rattle.guard.specs.declared.Request.{Request}
use Rattle.guard.proofs.Laws.Refusals.{condition_of, distinct, first_none, Leads, first_leads, first_met, rising_from, first_lowest}
use Rattle.guard.proofs.Laws.Step.{each_rule}

abbrev numbers : Tables → Request → Rule → List ℕ
numbers t q r = map (λ (c : Refusal). c.number) (r.refusals t q)

-- Refusals 1 and 2 apply to all nineteen, and 5 to all but login.
pub applying : (t : Tables) (q : Request) →
    map (numbers t q) rules ≡
    (3 ∷ 4 ∷ [])  -- login (seat, user, label): 3, 4.
    ∷ (5 ∷ [])  -- logout (x)
    ∷ (5 ∷ 7 ∷ 12 ∷ 16 ∷ [])  -- take (x, role): 7, 12, 16.
    ∷ (5 ∷ 7 ∷ 16 ∷ [])  -- drop (x, role): 7, 16.
    ∷ (5 ∷ 7 ∷ 10 ∷ 11 ∷ 13 ∷ 16 ∷ [])  -- openr ..
    ∷ (5 ∷ 7 ∷ 10 ∷ 11 ∷ 13 ∷ 16 ∷ [])  -- .. openw (x, e): 7, 10, 11, 13, 16.
    ∷ (5 ∷ 7 ∷ 16 ∷ [])  -- close (x, e) ends both: 7, 16.
    ∷ (5 ∷ 7 ∷ 8 ∷ 9 ∷ 10 ∷ 11 ∷ 12 ∷ 13 ∷ 14 ∷ [])  -- create: 7, 8, 9, 10, 11, 12, 13, 14.
    ∷ (5 ∷ 6 ∷ 7 ∷ 13 ∷ 15 ∷ [])  -- delete (x, e): 6, 7, 13, 15.
    ∷ (5 ∷ 6 ∷ 7 ∷ 13 ∷ 14 ∷ [])  -- rename (x, e, name): 6, 7, 13, 14.
    ∷ (5 ∷ 7 ∷ 10 ∷ 13 ∷ [])  -- grant ..
    ∷ (5 ∷ 7 ∷ 10 ∷ 13 ∷ [])  -- .. revoke (x, role, e, rights): 7, 10, 13.
    ∷ (5 ∷ 7 ∷ 10 ∷ 12 ∷ 16 ∷ [])  -- list ..
    ∷ (5 ∷ 7 ∷ 10 ∷ 12 ∷ 16 ∷ [])  -- .. unlist (x, role, user): 7, 10, 12, 16.
    ∷ (5 ∷ 8 ∷ 10 ∷ 12 ∷ [])  -- make (x, role): 8, 10, 12.
    ∷ (5 ∷ 6 ∷ 7 ∷ 10 ∷ 12 ∷ 15 ∷ [])  -- unmake (x, role): 6, 7, 10, 12, 15.
    ∷ (5 ∷ 7 ∷ 9 ∷ 10 ∷ 13 ∷ 16 ∷ [])  -- share (x, e, mark): 7, 9, 10, 13, 16.
    ∷ (5 ∷ 7 ∷ 10 ∷ 12 ∷ 22 ∷ 16 ∷ [])  -- join (x, senior, junior): 7, 10, 12, 22, 16.
    ∷ (5 ∷ 7 ∷ 10 ∷ 12 ∷ 16 ∷ [])  -- unjoin (x, senior, junior): 7, 10, 12, 16.
    ∷ []
unfolding rules login logout take drop openr openw close create delete rename grant revoke list unlist make unmake share join unjoin
applying t q = refl

-- the whole list of a request, from which its answer is taken
abbrev pub conditions : Rule → Tables → Request → List Refusal
conditions r t q = 1 when not (sound t) ∷ 2 when not (in_ranges q) ∷ r.refusals t q

-- the numbers of each list are distinct, and none is 0
apart : (t : Tables) (q : Request) → distinct (conditions (rule_of q) t q) ≡ true
unfolding rules login logout take drop openr openw close create delete rename grant revoke list unlist make unmake share join unjoin unknown
apart t q =
    each_rule (λ r. distinct (conditions r t q) ≡ true)
    (refl, (refl, (refl, (refl, (refl, (refl, (refl, (refl, (refl, (refl, (refl, (refl, (refl, (refl, (refl, (refl, (refl, (refl, (refl, tt)))))))))))))))))))
    refl
    q

-- the order of all numbers: "22 .. comes between 12 and 13"
abbrev pub order : List ℕ
order = 1 ∷ 2 ∷ 3 ∷ 4 ∷ 5 ∷ 6 ∷ 7 ∷ 8 ∷ 9 ∷ 10 ∷ 11 ∷ 12 ∷ 22 ∷ 13 ∷ 14 ∷ 15 ∷ 16 ∷ []

-- where a number stands in a list, counted from 1
abbrev pub place_in : List ℕ → ℕ → ℕ
place_in [] n = 1
place_in (m ∷ ms) n = cond (eqb m n) 1 (suc (place_in ms n))

abbrev pub place : ℕ → ℕ
place = place_in order

-- .. and they rise in that order
rising : (t : Tables) (q : Request) → rising_from place 0 (conditions (rule_of q) t q) ≡ true
unfolding rules login logout take drop openr openw close create delete rename grant revoke list unlist make unmake share join unjoin unknown
rising t q =
    each_rule (λ r. rising_from place 0 (conditions r t q) ≡ true)
    (refl, (refl, (refl, (refl, (refl, (refl, (refl, (refl, (refl, (refl, (refl, (refl, (refl, (refl, (refl, (refl, (refl, (refl, (refl, tt)))))))))))))))))))
    refl
    q

-- Otherwise the answer is the lowest number below that applies to the request and whose condition is met. No number is
-- given otherwise.
pub answer_met : (t : Tables) (q : Request) → (answer t q ≡ 0 → ⊥) → condition_of (answer t q) (conditions (rule_of q) t q) ≡ true
unfolding answer_in
answer_met t q h = first_met (conditions (rule_of q) t q) (apart t q) h

pub answer_lowest : (t : Tables) (q : Request) (n : ℕ) → condition_of n (conditions (rule_of q) t q) ≡ true → place (answer t q) ≤ place n
unfolding answer_in
answer_lowest t q n h = first_lowest place (conditions (rule_of q) t q) (rising t q) n h

-- Answer 0 means done: exactly when no condition is met; and the answer is n exactly when n's condition is met and none before
-- it in the list.
pub answer_none : (t : Tables) (q : Request) → (answer t q ≡ 0 ↔ ((n : ℕ) → condition_of n (conditions (rule_of q) t q) ≡ false))
unfolding answer_in
answer_none t q = first_none (conditions (rule_of q) t q) (apart t q)

pub answer_leads : (t : Tables) (q : Request) (n : ℕ) → (n ≡ 0 → ⊥) → (answer t q ≡ n ↔ Leads n (conditions (rule_of q) t q))
unfolding answer_in
answer_leads t q n h = first_leads (conditions (rule_of q) t q) (apart t q) n h

-- ---- the names of the numbers
pub numbered :
    (get_or rules kind.login unknown ≡ login)
    × (get_or rules kind.logout unknown ≡ logout)
    × (get_or rules kind.take unknown ≡ take)
    × (get_or rules kind.drop unknown ≡ drop)
    × (get_or rules kind.openr unknown ≡ openr)
    × (get_or rules kind.openw unknown ≡ openw)
    × (get_or rules kind.close unknown ≡ close)
    × (get_or rules kind.create unknown ≡ create)
    × (get_or rules kind.delete unknown ≡ delete)
    × (get_or rules kind.rename unknown ≡ rename)
    × (get_or rules kind.grant unknown ≡ grant)
    × (get_or rules kind.revoke unknown ≡ revoke)
    × (get_or rules kind.list unknown ≡ list)
    × (get_or rules kind.unlist unknown ≡ unlist)
    × (get_or rules kind.make unknown ≡ make)
    × (get_or rules kind.unmake unknown ≡ unmake)
    × (get_or rules kind.share unknown ≡ share)
    × (get_or rules kind.join unknown ≡ join)
    × (get_or rules kind.unjoin unknown ≡ unjoin)
unfolding rules
numbered = (refl, refl, refl, refl, refl, refl, refl, refl, refl, refl, refl, refl, refl, refl, refl, refl, refl, refl, refl)

-- ---- a request of none of the nineteen kinds
pub unknown_rule : (q : Request) → request_count ≤ q.call → rule_of q ≡ unknown
unfolding rule_of rules
unknown_rule q h = get_or-eq_default rules unknown h

unknown_out : (q : Request) → request_count ≤ q.call → every (map (field_in_range q) unknown.uses) ≡ false
unfolding every unknown field_in_range_in
unknown_out q h = rw (le-ltb q.call request_count h) (and-false (ltb q.seat 16))

pub unknown_answer : (t : Tables) (q : Request) → request_count ≤ q.call → sound t ≡ true → answer t q ≡ 2
unfolding answer_in in_ranges_in first
unknown_answer t q h s = rw (s, unknown_rule q h, unknown_out q h)

-- 1 the tables are not sound: before all others
pub unsound_answer : (t : Tables) (q : Request) → sound t ≡ false → answer t q ≡ 1
unfolding answer_in first
unsound_answer t q s = rw s
