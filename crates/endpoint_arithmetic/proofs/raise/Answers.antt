-- `endpoint_arithmetic::raise` meets its contract.
use Rattle.endpoint_arithmetic.proofs.Machine.{within_fits, fits_within, within_add, within_pos, widened}
use Rattle.endpoint_arithmetic.specs.Signed.{raised}
use Rattle.endpoint_arithmetic.specs.Bounds.{Within}
use mir.ValLaws.{to_z-of_z, to_z_pos}
use mir.Val.{SFits}
use mir.Syntax.{w8, w32}
use lib.IntN.{pos, ◌+ℤ◌}
use native.Mathlib.Omega.{arith}
use mathlib.Core.Path.{refl}
use borrow.Author.Rules.{rules}
use Rattle.endpoint_arithmetic.proofs.raise.Goals as goal
use Rattle.endpoint_arithmetic.proofs.raise.Goals.{After-struct_told-1}

module _ (c : After-struct_told-1) where
  held : SFits w8 c.args.t.offset
  held = search rules

  near : Within 128 382 (pos c.args.t.base +ℤ c.args.t.offset)
  near = within_add {a = 0} {b = 255} (within_pos (omega arith)) (fits_within held)

  fit : SFits w32 (pos c.args.t.base +ℤ c.args.t.offset)
  fit = within_fits w32 near (omega arith) (omega arith)

pub overflow_cast-result-2 : goal.overflow_cast-result-2
overflow_cast-result-2 c = rw (to_z-of_z w8 _ (held c)) (within_fits w32 (fits_within (held c)) (omega arith) (omega arith))

pub overflow_add-result : goal.overflow_add-result
overflow_add-result c = rw (to_z_pos w32 c.args.t.base (omega arith), widened _ (held c)) (fit c)

pub returns : goal.returns
unfolding raised
returns c = rw (to_z_pos w32 c.args.t.base (omega arith), widened _ (held c), to_z-of_z w32 _ (fit c)) (refl, near c)
