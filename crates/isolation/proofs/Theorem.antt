-- The isolation rule: demand 3, whole, as one statement on all pairs of logs. (The field's word: noninterference.)
-- It is stated over definitions alone: sound, run, same_requests (guard/specs: Sound, Step, SameRequest) and upper, upper_requests,
-- upper_answers (Upper). UpperInWords says what equal upper parts are, sentence by sentence.
-- The rule speaks of both editions: the edition is part of the upper part, so both start in the same one. The bounds of L are the
-- paper's: the proof needs none. Assumes nothing.
use Rattle.std.specs.Prelude.{ℕ, ◌≤◌, ◌≡◌, true, List}
use Rattle.guard.specs.Sound.{sound}
use Rattle.guard.specs.Step.{run}
use Rattle.guard.specs.SameRequest.{same_requests}
use Rattle.isolation.specs.Upper.{upper, upper_requests, upper_answers}
use Rattle.guard.specs.declared.Tables.{Tables}
use Rattle.guard.specs.declared.Request.{Request}
use Rattle.isolation.proofs.OneRequest.SameRequests.{rule_same}

pub isolation :
    -- For every level L from 1 to 3
    (L : ℕ) → 1 ≤ L → L ≤ 3
    -- let both start from sound tables with equal upper parts for L
    → (t u : Tables) → sound t ≡ true → sound u ≡ true → upper L t ≡ upper L u
    -- and every two logs, of any length, refused requests included
    → (a b : List Request)
    -- If both logs hold the same requests of level L and above in the same order (in the fields that each uses: the others are
    -- not looked at),
    → same_requests (upper_requests L a) (upper_requests L b) ≡ true
    -- then the upper parts after the two logs are equal, whatever was asked from below L, in kind, number or place.
    → (upper L (run t a) ≡ upper L (run u b))
    -- And of the requests of level L and above, each that names only seats, roles and entities of level L or above gets
    -- the same answer in both logs, the role included.
    × (upper_answers L t a ≡ upper_answers L u b)
isolation L low high = rule_same L
