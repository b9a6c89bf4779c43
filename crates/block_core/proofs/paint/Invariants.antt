use mathlib.Core.Path.{◌≡◌}
use mathlib.Core.List.{List}
use Prim.Native.Nat.{ℕ, ◌+◌, ◌*◌}
use lib.ListN.{length}
use Rattle.block_core.specs.inner.Prepared.{prepared_texel}
use Rattle.block_buffer.proofs.Painting.{Laid}
use Rattle.block_core.proofs.paint.Given as goal

-- within a row: whatever was painted before the row is there still, and x texels of the row are
abbrev pub invariant-loop-x : goal.invariant-loop-x
invariant-loop-x l =
    ((old : List ℕ) → length old ≡ 864 → Laid l.f.width (prepared_texel l.kind l.g l.component l.points l.lines l.seeds l.partitions l.f) old l.initial.out (4 * (l.y * l.f.width)) → Laid l.f.width (prepared_texel l.kind l.g l.component l.points l.lines l.seeds l.partitions l.f) old l.out (4 * (l.y * l.f.width + l.x)))

abbrev pub invariant-loop-y : goal.invariant-loop-y
invariant-loop-y l =
    (length l.initial.out ≡ 864 → Laid l.f.width (prepared_texel l.kind l.g l.component l.points l.lines l.seeds l.partitions l.f) l.initial.out l.out (4 * (l.y * l.f.width)))
