-- Requests that ask the same.
use Rattle.std.specs.Prelude.{Bool, true, false, List, [], ◌∷◌, map, eqb}
use Rattle.bitset.specs.Tests.{every}
use Rattle.guard.specs.Label.{same_label}
use Rattle.guard.specs.Conditions.{label_asked}
use Rattle.guard.specs.Requests.{Field, call, seat, user, role, entity, parent, kind, name, label, rights, shared, junior, rule_of}
use Rattle.guard.specs.declared.Request.{Request}

unfoldable pub same_field : Request → Request → Field → Bool
same_field p q call = eqb p.call q.call
same_field p q seat = eqb p.seat q.seat
same_field p q user = eqb p.user q.user
same_field p q role = eqb p.role q.role
same_field p q entity = eqb p.entity q.entity
same_field p q parent = eqb p.parent q.parent
same_field p q kind = eqb p.kind q.kind
same_field p q name = eqb p.name q.name
same_field p q label = same_label (label_asked p) (label_asked q)
same_field p q rights = eqb p.rights q.rights
same_field p q shared = eqb p.shared q.shared
same_field p q junior = eqb p.junior q.junior

-- Fields that a request does not use are not looked at: two requests ask the same when they are of one kind and agree in
-- the fields that it uses, the acting seat among them.
unfoldable pub same_request : Request → Request → Bool
same_request p q = every (eqb p.call q.call ∷ map (same_field p q) (rule_of p).uses)

-- as many requests, and in order each asks the same as the other
unfoldable pub same_requests : List Request → List Request → Bool
same_requests [] [] = true
same_requests [] (q ∷ b) = false
same_requests (p ∷ a) [] = false
same_requests (p ∷ a) (q ∷ b) = every (same_request p q ∷ same_requests a b ∷ [])
