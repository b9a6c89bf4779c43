use mathlib.Core.Path.{◌≡◌}
use lib.ListN.{get_or}
use Rattle.laws.specs.Table.{padded}
use Rattle.endpoint_arithmetic.specs.Pair.{zero_pair}
use Rattle.interpolation.specs.Expansion.{no_pair}
use Rattle.interpolation.specs.inner.Line.{line_of}
use Rattle.block_levels.proofs.pair_lines.Given as goal

abbrev pub invariant-loop-p : goal.invariant-loop-p
invariant-loop-p l = (l.out ≡ padded 4 l.p (λ k. line_of (get_or l.t k no_pair)) (line_of zero_pair))
