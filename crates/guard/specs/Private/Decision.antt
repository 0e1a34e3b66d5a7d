-- The number of a decision, as a host is answered: 0 done, else the paper's number of the refusal.
use Rattle.std.specs.Prelude.{ℕ, Result, Ok, Err}
use Rattle.guard.specs.declared.refusal.Refusal.{Refusal}
use Rattle.guard.specs.declared.refusal.Refusal.TheVariants.{Unsound, OutOfRange, SeatLive, UserTooLow, SeatDead, RootOrKeeper, NotLive, NumberLive, NoContainer, Integrity, Confidentiality, RoleMissing, RightMissing, NameTaken, InUse, NoChange, Cycle}

abbrev pub number_of : Refusal → ℕ
number_of Unsound = 1
number_of OutOfRange = 2
number_of SeatLive = 3
number_of UserTooLow = 4
number_of SeatDead = 5
number_of RootOrKeeper = 6
number_of NotLive = 7
number_of NumberLive = 8
number_of NoContainer = 9
number_of Integrity = 10
number_of Confidentiality = 11
number_of RoleMissing = 12
number_of RightMissing = 13
number_of NameTaken = 14
number_of InUse = 15
number_of NoChange = 16
number_of Cycle = 22

abbrev pub answer_of : Result (Unit {0}) Refusal → ℕ
answer_of (Ok done) = 0
answer_of (Err refusal) = number_of refusal
