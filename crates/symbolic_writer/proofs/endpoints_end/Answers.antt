use mathlib.Core.Path.{◌∙◌, ap₂}
use native.Mathlib.Omega.{arith}
use Prim.Native.Nat.{◌+◌, ◌≤◌}
use Rattle.block_header.proofs.Laws.{range_bits_le}
use Rattle.symbolic_block.specs.Writing.{endpoints_end}
use Rattle.symbolic_writer.proofs.endpoints_end.Goals as goal
use Rattle.symbolic_writer.proofs.endpoints_end.Goals.{After-range_bits}

small : (c : After-range_bits) → c.range_bits.result ≤ 359040
small c =
    let a = c.args in
    rw c.range_bits.ensures (range_bits_le a.range a.n 32640 (omega arith))

pub overflow_cast-result-2 : goal.overflow_cast-result-2
unfolding endpoints_end
overflow_cast-result-2 c = omega (arith, small c)

pub overflow_add-result : goal.overflow_add-result
unfolding endpoints_end
overflow_add-result c = omega (arith, small c)

pub returns : goal.returns
unfolding endpoints_end
returns c = let p = c.requires in ap₂ ◌+◌ c.endpoints_from.ensures (c.range_bits.ensures ∙ rw (p.0, p.1))
