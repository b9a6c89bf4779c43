use Prim.Native.Nat.{◌%◌, ◌≤◌}
use native.Mathlib.Omega.{arith}
use lib.Bits.{bit_and, and_le_r}
use Rattle.block_mode.specs.inner.Forms.{other_side}
use Rattle.block_mode.proofs.other_side.Goals as goal
use Rattle.block_mode.proofs.other_side.Goals.{After-nibble}

-- the bits that count
few : (c : After-nibble) → bit_and c.choose-some.result (c.args.marks % 4) ≤ c.args.marks % 4
few c = and_le_r c.choose-some.result (c.args.marks % 4)

pub returns : goal.returns
unfolding other_side
returns c = (rw (c.nibble.ensures.0, c.choose-some.ensures.0), omega (arith, few c, c.nibble.ensures.1))

pub overflow_add-result : goal.overflow_add-result
overflow_add-result c = omega (arith, few c, c.nibble.ensures.1)
