use mathlib.Core.Path.{◌≡◌}
use mathlib.Core.List.{List}
use Prim.Native.Nat.{ℕ, ◌+◌, ◌*◌}
use lib.ListN.{length}
use Rattle.encoding.specs.declared.LevelPair.{LevelPair}
use Rattle.weight_grid.specs.inner.Pairs.{OnePlane, pairs_of}
use Rattle.block_core.specs.inner.Prepared.{single_texel}
use Rattle.block_buffer.proofs.Painting.{Laid}
use Rattle.block_core.proofs.paint_single.Given as goal

-- within a row: whatever was painted before the row is there still, and x texels of the row are, whatever points the pairs were made of
abbrev pub invariant-loop-x : goal.invariant-loop-x
invariant-loop-x l =
    ((points : List LevelPair) → l.pairs ≡ pairs_of points → OnePlane points → (old : List ℕ) → length old ≡ 864 → Laid l.f.width (single_texel l.kind l.g points l.lines l.f) old l.initial.out (4 * (l.y * l.f.width)) → Laid l.f.width (single_texel l.kind l.g points l.lines l.f) old l.out (4 * (l.y * l.f.width + l.x)))

abbrev pub invariant-loop-y : goal.invariant-loop-y
invariant-loop-y l =
    ((points : List LevelPair) → l.pairs ≡ pairs_of points → OnePlane points → length l.initial.out ≡ 864 → Laid l.f.width (single_texel l.kind l.g points l.lines l.f) l.initial.out l.out (4 * (l.y * l.f.width)))
