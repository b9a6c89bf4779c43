use native.Mathlib.Omega.{arith}
use Rattle.block_mode.specs.inner.Forms.{form_of}
use Rattle.block_mode.proofs.form_of.Goals as goal

pub returns : goal.returns
unfolding form_of
returns c = (
  rw (c.choose.ensures.0, c.choose-high.ensures.0, c.choose-late.ensures.0),
  c.choose.ensures.1 15 (c.choose-high.ensures.1 15 (omega arith) (c.choose-late.ensures.1 15 (omega arith) (omega arith))) (omega arith),
)
