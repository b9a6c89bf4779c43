use mathlib.Core.Path.{refl}
use native.Mathlib.Omega.{arith}
use Rattle.block_mode.specs.inner.Forms.{nibble_at}
use Rattle.block_mode.proofs.nibble.Goals as goal

pub returns : goal.returns
unfolding nibble_at
returns c = (refl, omega arith)
