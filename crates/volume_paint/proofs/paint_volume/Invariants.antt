use mathlib.Core.Path.{◌≡◌}
use mathlib.Core.List.{List}
use Prim.Native.Nat.{ℕ, ◌+◌, ◌*◌}
use lib.ListN.{length}
use Rattle.block_buffer.proofs.Painting.{Laid}
use Rattle.volume_paint.specs.inner.Volume.{volume_texel}
use Rattle.laws.specs.Table.{by_rows}
use Rattle.volume_paint.proofs.paint_volume.Given as goal

-- within a row: whatever was painted before the row is there still, and x texels of the row are
abbrev pub invariant-loop-x : goal.invariant-loop-x
invariant-loop-x l =
    ((old : List ℕ) → length old ≡ 864
    → Laid l.f.width (by_rows l.f.height (volume_texel l.kind l.width l.height l.depth l.component l.points l.lines l.index l.partitions l.small l.f)) old l.initial.out (4 * (l.q * l.f.width))
    → Laid l.f.width (by_rows l.f.height (volume_texel l.kind l.width l.height l.depth l.component l.points l.lines l.index l.partitions l.small l.f)) old l.out (4 * (l.q * l.f.width + l.x)))

-- within a layer: likewise, and y rows of the layer are
abbrev pub invariant-loop-y : goal.invariant-loop-y
invariant-loop-y l =
    ((old : List ℕ) → length old ≡ 864
    → Laid l.f.width (by_rows l.f.height (volume_texel l.kind l.width l.height l.depth l.component l.points l.lines l.index l.partitions l.small l.f)) old l.initial.out (4 * (l.z * l.f.height * l.f.width))
    → Laid l.f.width (by_rows l.f.height (volume_texel l.kind l.width l.height l.depth l.component l.points l.lines l.index l.partitions l.small l.f)) old l.out (4 * ((l.z * l.f.height + l.y) * l.f.width)))

abbrev pub invariant-loop-z : goal.invariant-loop-z
invariant-loop-z l =
    (length l.initial.out ≡ 864
    → Laid l.f.width (by_rows l.f.height (volume_texel l.kind l.width l.height l.depth l.component l.points l.lines l.index l.partitions l.small l.f)) l.initial.out l.out (4 * (l.z * l.f.height * l.f.width)))
