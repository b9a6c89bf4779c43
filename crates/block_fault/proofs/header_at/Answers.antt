use mathlib.Core.Path.{◌∙◌}
use Prim.Native.Nat.{◌+◌}
use native.Mathlib.Omega.{arith}
use Rattle.bits.specs.Block.{block_number}
use Rattle.block_fault.specs.Bits.{selector_at}
use Rattle.block_fault.proofs.Laws.{Narrow, narrow}
use Rattle.block_fault.proofs.header_at.Goals as goal
use Rattle.block_fault.proofs.header_at.Goals.{After-field_at-selector}

selector_is : (c : After-field_at-selector) → Narrow (block_number c.args.b) (13 + c.index_bits-from.result) c.selector_bits.result 2 c.field_at-selector.result
selector_is c = narrow _ _ _ 2 c.selector_bits.ensures.1 (omega arith) c.field_at-selector.ensures

pub overflow_cast-selector : goal.overflow_cast-selector
overflow_cast-selector c = omega (arith, (selector_is c).below)

pub header_with-requires : goal.header_with-requires
header_with-requires c =
    let p = c.requires in
    (p.0, omega (arith, (selector_is c).below), p.1, p.2, p.3)

pub returns : goal.returns
unfolding selector_at
returns c = c.header_with.ensures ∙ rw ((selector_is c.before).is, c.selector_bits.ensures.0, c.index_bits-from.ensures.0)
