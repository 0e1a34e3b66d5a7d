-- `fits` tests every number that the request uses. Assumes nothing.
use mathlib.Core.Path.{sym, ◌∙◌}
use mathlib.Core.Bool.{and-true}
use native.Mathlib.Omega.{arith}
use Rattle.bitset.specs.Tests.{every}
use Rattle.guard.specs.Label.{label_in_range_in}
use Rattle.guard.specs.Requests.{field_in_range_in, rules, login, logout, create, delete, rename}
use Rattle.guard.proofs.Ranges.{ranges_at, fits_take, fits_open, fits_grant, fits_list, fits_make, fits_share, fits_tie, fits_none}
use Rattle.guard.proofs.look.fits.Goals as goal

pub returns-in-0 : goal.returns-in-0
unfolding rules login field_in_range_in label_in_range_in every
returns-in-0 c = sym (ranges_at _ 0 c.in-0.is ∙ simp and-true)

pub returns-in-1 : goal.returns-in-1
unfolding rules logout field_in_range_in label_in_range_in every
returns-in-1 c = sym (ranges_at _ 1 c.in-1.is ∙ simp and-true)

pub returns-in-7 : goal.returns-in-7
unfolding rules create field_in_range_in label_in_range_in every
returns-in-7 c = sym (ranges_at _ 7 c.in-7.is ∙ simp and-true)

pub returns-in-8 : goal.returns-in-8
unfolding rules delete field_in_range_in label_in_range_in every
returns-in-8 c = sym (ranges_at _ 8 c.in-8.is ∙ simp and-true)

pub returns-in-9 : goal.returns-in-9
unfolding rules rename field_in_range_in label_in_range_in every
returns-in-9 c = sym (ranges_at _ 9 c.in-9.is ∙ simp and-true)

pub returns-in-16 : goal.returns-in-16
returns-in-16 c = fits_share _ c.in-16.is

pub returns-in-2 : goal.returns-in-2
returns-in-2 c = fits_take _ (omega arith) (omega arith)

pub returns-in-4 : goal.returns-in-4
returns-in-4 c = fits_open _ (omega arith) (omega arith)

pub returns-in-10 : goal.returns-in-10
returns-in-10 c = fits_grant _ (omega arith) (omega arith)

pub returns-in-12 : goal.returns-in-12
returns-in-12 c = fits_list _ (omega arith) (omega arith)

pub returns-in-14 : goal.returns-in-14
returns-in-14 c = fits_make _ (omega arith) (omega arith)

pub returns-in-17 : goal.returns-in-17
returns-in-17 c = fits_tie _ (omega arith) (omega arith)

pub returns-in_default : goal.returns-in_default
returns-in_default c = fits_none _ (omega arith)
