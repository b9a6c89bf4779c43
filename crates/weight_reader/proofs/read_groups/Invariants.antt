use Prim.Native.Nat.{◌+◌, ◌-◌}
use mathlib.Core.Path.{◌≡◌}
use Rattle.bits.specs.Block.{block_number}
use Rattle.integer_sequence.proofs.Turns.{Turn, so_far}
use Rattle.weight_reader.specs.inner.Weights.{no_levels, point_by}
use Rattle.weight_reader.proofs.read_groups.Given as goal

abbrev pub invariant-loop-i : goal.invariant-loop-i
invariant-loop-i g l = Turn (point_by l.table) no_levels g.G.Group.form l.b (block_number l.fn.s) l.n l.i l.out l.rest

abbrev pub invariant-loop-k : goal.invariant-loop-k
invariant-loop-k g l = l.out ≡ so_far (point_by l.table) no_levels g.G.Group.form l.b (block_number l.fn.s) l.n (l.i + l.k)

abbrev pub decreases-loop-i : goal.decreases-loop-i
decreases-loop-i g l = l.n - l.i
