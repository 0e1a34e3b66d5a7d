-- Confidentiality labels.
use Rattle.std.specs.Prelude.{ℕ, Bool, [], ◌∷◌, leb, eqb}
use Rattle.bitset.specs.Tests.{every}
use Rattle.bitset.specs.Sets.{contains}
use Rattle.guard.specs.declared.Label.{Label}

-- A label (confidentiality) is a grade 0 to 3 and a set of categories, written as a number, one bit for each category.
abbrev pub top_grade : ℕ
top_grade = 3

-- Categories are a set of sixteen, 0 to 65,535, in users, seats and entities. This is the largest set.
abbrev pub all_categories : ℕ
all_categories = 65535

-- In the old width they were a set of eight, 0 to 255.
abbrev pub old_width : ℕ
old_width = 255

-- The width is the largest set. The rules are given for any width: a definition that rests on it takes it, under a name that
-- ends in `In`. The same name without that ending is of the rules in force, whose width is `all_categories`.
unfoldable pub label_in_range_in : ℕ → Label → Bool
label_in_range_in width a = every (leb a.grade top_grade ∷ leb a.cats width ∷ [])

abbrev pub label_in_range : Label → Bool
label_in_range = label_in_range_in all_categories

-- Label A dominates label B when A's grade is at least B's and A's set contains B's.
unfoldable pub dominates : Label → Label → Bool
dominates a b = every (leb b.grade a.grade ∷ contains a.cats b.cats ∷ [])

unfoldable pub same_label : Label → Label → Bool
same_label a b = every (eqb a.grade b.grade ∷ eqb a.cats b.cats ∷ [])

-- label 0/0 (grade/categories)
abbrev pub label : ℕ → ℕ → Label
label grade cats = record { cats = cats; grade = grade }

abbrev pub no_label : Label
no_label = label 0 0
