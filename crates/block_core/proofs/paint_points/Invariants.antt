use mathlib.Core.Path.{◌≡◌}
use Prim.Native.Nat.{ℕ, ◌*◌, ◌/◌, ◌%◌, ◌<◌}
use lib.ListN.{length}
use Rattle.interpolation.specs.declared.Texel.{Texel}
use Rattle.block_buffer.proofs.Painting.{Laid}
use Rattle.block_core.specs.inner.Prepared.{point_texel}
use Rattle.block_core.proofs.paint_points.Given as goal

abbrev pub invariant-loop-i : goal.invariant-loop-i
invariant-loop-i l =
    ((width : ℕ) (texel : ℕ → ℕ → Texel) → ((t : ℕ) → t < l.count → point_texel l.kind l.component l.points l.lines t ≡ texel (t % width) (t / width)) → length l.initial.out ≡ 864 → Laid width texel l.initial.out l.out (4 * l.i))
