-- The sample of document 01: the report of its input is its output, by computing. Assumes nothing.
use mathlib.Core.Path.{◌≡◌, refl}
use mathlib.Core.List.{List}
use Prim.Native.Nat.{ℕ}
use Rattle.guard.proofs.Compute.{computing}
use Rattle.script.specs.Text.{bytes, same, onto, lines, values, all_digits, number, place, decimal}
use Rattle.script.specs.Names.{names, optional_names, all_names, column, among, none_twice, is_names, under}
use Rattle.script.specs.Line.{value_of, request_words, words, ordinal, is_used, fields, optional_fields, used, joined, taken, take_each, asks, line_of, read_line}
use Rattle.script.specs.Report.{with_user, user_in_ranges, answer_line, heading, line_text, answered, below, report}

abbrev input : List ℕ
input = bytes "call seat user role entity parent kind name level cats rights ceiling\nuser - 0 - - - - - 3 255 - 3\nlogin 12 0 - - - - - 0 0 - -\ntake 12 - 12 - - - - - - - -\nopenw 12 - - 48 - - - - - - -\nopenw 12 - - 48 - - - - - - -\nlogout 13 - - - - - - - - - -\n"

abbrev output : List ℕ
output = bytes "line answer\n2 0\n3 0\n4 0\n5 0\n6 16\n7 5\n"

pub sample : report input ≡ output
unfolding computing bytes same onto lines values all_digits number place decimal names optional_names all_names column among none_twice is_names under value_of request_words words ordinal is_used fields optional_fields used joined taken take_each asks line_of read_line with_user user_in_ranges answer_line heading line_text answered below report
sample = refl
