-- The requests' numbers: 0 to 18 in the order in which the papers list the nineteen. (proofs/Laws/Requests: the rule at each
-- number is the request's.)
use Rattle.std.specs.Prelude.{ℕ}

abbrev pub login : ℕ
login = 0

abbrev pub logout : ℕ
logout = 1

abbrev pub take : ℕ
take = 2

abbrev pub drop : ℕ
drop = 3

abbrev pub openr : ℕ
openr = 4

abbrev pub openw : ℕ
openw = 5

abbrev pub close : ℕ
close = 6

abbrev pub create : ℕ
create = 7

abbrev pub delete : ℕ
delete = 8

abbrev pub rename : ℕ
rename = 9

abbrev pub grant : ℕ
grant = 10

abbrev pub revoke : ℕ
revoke = 11

abbrev pub list : ℕ
list = 12

abbrev pub unlist : ℕ
unlist = 13

abbrev pub make : ℕ
make = 14

abbrev pub unmake : ℕ
unmake = 15

abbrev pub share : ℕ
share = 16

abbrev pub join : ℕ
join = 17

abbrev pub unjoin : ℕ
unjoin = 18
