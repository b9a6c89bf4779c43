use mathlib.Core.Path.{◌≡◌}
use Prim.Native.Nat.{◌*◌, ◌/◌, ◌%◌}
use lib.ListN.{length}
use Rattle.laws.specs.inner.Filled.{Filled}
use Rattle.bits.specs.Block.{block_number}
use Rattle.bc7_layout.specs.Layout.{mode_at, field_at}
use Rattle.bc7_block.specs.Picture.{texel_of}
use Rattle.bc7_core.proofs.paint.Given as goal

abbrev pub invariant-loop-i : goal.invariant-loop-i
invariant-loop-i l = (length l.out ≡ 64) × Filled (λ k. texel_of (mode_at (block_number l.b)) (field_at (block_number l.b)) (k / 4) (k % 4)) 0 l.out (4 * l.i)
