use mathlib.Core.Path.{◌≡◌}
use lib.ListN.{length}
use Rattle.bits.specs.Block.{block_number}
use Rattle.bc7_core.specs.inner.Sets.{set_of, set_factor, Factors}
use Rattle.bc7_core.proofs.factors.Given as goal

abbrev pub invariant-loop-i : goal.invariant-loop-i
invariant-loop-i l = (l.s ≡ set_of (block_number l.b) l.initial.s.first l.i) × (length l.r ≡ 16) × Factors (set_factor (block_number l.b) l.initial.s.first) l.r l.i
