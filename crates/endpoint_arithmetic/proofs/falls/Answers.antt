-- `endpoint_arithmetic::falls` meets its contract.
use Rattle.endpoint_arithmetic.proofs.Machine.{within_add, fits_within, within_fits, widened}
use Rattle.endpoint_arithmetic.specs.Bounds.{Within}
use mir.ValLaws.{to_z-of_z}
use mir.Val.{SFits}
use mir.Syntax.{w8, w32}
use lib.IntN.{◌+ℤ◌}
use borrow.Author.Rules.{rules}
use native.Mathlib.Omega.{arith}
use Rattle.endpoint_arithmetic.proofs.falls.Goals as goal
use Rattle.endpoint_arithmetic.proofs.falls.Goals.{After-struct_told-3-1}

module _ (c : After-struct_told-3-1) where
  fx : SFits w8 c.args.r.offset
  fx = search rules

  fy : SFits w8 c.args.g.offset
  fy = search rules

  fz : SFits w8 c.args.b.offset
  fz = search rules

  two : Within 256 254 (c.args.r.offset +ℤ c.args.g.offset)
  two = within_add (fits_within fx) (fits_within fy)

  fit2 : SFits w32 (c.args.r.offset +ℤ c.args.g.offset)
  fit2 = within_fits w32 two (omega arith) (omega arith)

  fit3 : SFits w32 (c.args.r.offset +ℤ c.args.g.offset +ℤ c.args.b.offset)
  fit3 = within_fits w32 (within_add two (fits_within fz)) (omega arith) (omega arith)

pub overflow_cast-result : goal.overflow_cast-result
overflow_cast-result c = rw (to_z-of_z w8 _ (fx c)) (within_fits w32 (fits_within (fx c)) (omega arith) (omega arith))

pub overflow_cast-result-2 : goal.overflow_cast-result-2
overflow_cast-result-2 c = rw (to_z-of_z w8 _ (fy c)) (within_fits w32 (fits_within (fy c)) (omega arith) (omega arith))

pub overflow_add-result : goal.overflow_add-result
overflow_add-result c = rw (widened _ (fx c), widened _ (fy c)) (fit2 c)

pub overflow_cast-result-3 : goal.overflow_cast-result-3
overflow_cast-result-3 c = rw (to_z-of_z w8 _ (fz c)) (within_fits w32 (fits_within (fz c)) (omega arith) (omega arith))

pub overflow_add-result-2 : goal.overflow_add-result-2
overflow_add-result-2 c = rw (widened _ (fx c), widened _ (fy c), to_z-of_z w32 _ (fit2 c), widened _ (fz c)) (fit3 c)

pub returns : goal.returns
returns c = rw (widened _ (fx c), widened _ (fy c), to_z-of_z w32 _ (fit2 c), widened _ (fz c), to_z-of_z w32 _ (fit3 c))
