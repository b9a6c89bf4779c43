use mathlib.Core.Path.{◌≡◌}
use mathlib.Core.List.{[]}
use lib.ListN.{length}
use Rattle.laws.specs.inner.Filled.{Filled}
use Rattle.bits.specs.Block.{block_number}
use Rattle.bc7_layout.specs.Layout.{mode_at, field_at}
use Rattle.bc7_ends.specs.inner.Lanes.{subset_line}
use Rattle.bc7_ends.proofs.lines_of.Given as goal

abbrev pub invariant-loop-j : goal.invariant-loop-j
invariant-loop-j l = (length l.q ≡ 3) × Filled (subset_line (mode_at (block_number l.b)) (field_at (block_number l.b))) [] l.q l.j
