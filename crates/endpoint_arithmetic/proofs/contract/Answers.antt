-- `endpoint_arithmetic::contract` meets its contract.
use Rattle.endpoint_arithmetic.proofs.Machine.{within_add, within_half, within_fits, sum_read}
use Rattle.endpoint_arithmetic.specs.Signed.{contracted}
use Rattle.endpoint_arithmetic.specs.Bounds.{Within}
use mir.ValLaws.{to_z-of_z}
use mir.Val.{SFits}
use mir.Syntax.{w32}
use lib.Signed.{shr_z}
use lib.IntN.{◌+ℤ◌}
use native.Mathlib.Omega.{arith}
use Rattle.endpoint_arithmetic.proofs.contract.Goals as goal
use Rattle.endpoint_arithmetic.proofs.contract.Goals.{Start}

module _ (s : Start) where
  fx : SFits w32 s.args.x.0
  fx = within_fits w32 s.requires.0 (omega arith) (omega arith)

  fb : SFits w32 s.args.blue.0
  fb = within_fits w32 s.requires.1 (omega arith) (omega arith)

  near : Within 256 764 (s.args.x.0 +ℤ s.args.blue.0)
  near = within_add s.requires.0 s.requires.1

  fit : SFits w32 (s.args.x.0 +ℤ s.args.blue.0)
  fit = within_fits w32 near (omega arith) (omega arith)

  half : SFits w32 (shr_z (s.args.x.0 +ℤ s.args.blue.0) 2)
  half = within_fits w32 (within_half 128 382 near) (omega arith) (omega arith)

pub overflow_add-result : goal.overflow_add-result
overflow_add-result c = let s = c.before.before in rw (to_z-of_z w32 _ (fx s), to_z-of_z w32 _ (fb s)) (fit s)

pub returns : goal.returns
unfolding contracted
returns c = let s = c.before.before in rw (sum_read _ _ (fx s) (fb s) (fit s), to_z-of_z w32 _ (half s))
