use native.Mathlib.Omega.{arith}
use Rattle.block_mode.specs.inner.Forms.{grid_of}
use Rattle.block_mode.proofs.grid_of.Goals as goal

pub returns : goal.returns
unfolding grid_of
returns c =
    rw (
      c.range_in.ensures,
      c.choose-top.ensures.0,
      c.choose-height.ensures.0,
      c.choose-width.ensures.0,
      c.other_side-other.ensures.0,
      c.nibble.ensures.0,
    )

pub overflow_cast-result : goal.overflow_cast-result
overflow_cast-result c = omega (arith, c.choose-width.ensures.1 18 (omega arith) (omega arith))

pub overflow_cast-result-2 : goal.overflow_cast-result-2
overflow_cast-result-2 c = omega (arith, c.choose-height.ensures.1 18 (omega arith) (omega arith))

pub overflow_cast-result-3 : goal.overflow_cast-result-3
overflow_cast-result-3 c = omega (arith, c.choose-top.ensures.1 3 (omega arith) (omega arith))
