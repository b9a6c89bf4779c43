use native.Mathlib.Omega.{arith}
use mathlib.Core.Path.{◌≡◌, refl, ap, ◌∙◌}
use Prim.Native.Nat.{ℕ, ◌-◌, ◌/◌, ◌≤◌}
use Rattle.block_header.specs.declared.BlockHeader.{BlockHeader}
use Rattle.block_header.specs.Counts.{weight_bits, extra_bits, endpoint_count, endpoint_range_of}
use Rattle.symbolic_block.specs.Fields.{header_of}
use Rattle.symbolic_block.specs.Writing.{modes_code, endpoints_end, component_from, mode_cells}
use Rattle.symbolic_writer.specs.inner.Piled.{piled}
use Rattle.symbolic_writer.proofs.Piled.{placed, appended}
use Rattle.symbolic_writer.proofs.mode_block.Goals as goal
use Rattle.symbolic_writer.proofs.mode_block.Goals.{After-endpoint_range_of-range}

pub modes_code-code-requires : goal.modes_code-code-requires
modes_code-code-requires c = rw c.header_of-h.ensures c.requires.partitions_most

pub settings-requires : goal.settings-requires
settings-requires c = (c.requires, c.modes_code-code.ensures ∙ ap modes_code c.header_of-h.ensures)

-- how many endpoint numbers there are, and their range
counted : (c : After-endpoint_range_of-range) → let s = c.args.s in
    (c.endpoint_count-n.result ≡ endpoint_count (header_of s)) × (c.endpoint_range_of-range.result ≡ endpoint_range_of (header_of s)) × (c.endpoint_count-n.result ≤ 18)
counted c =
    let h = c.header_of-h.ensures in
    let n : c.endpoint_count-n.result ≡ endpoint_count (header_of c.args.s) = c.endpoint_count-n.ensures.0 ∙ ap endpoint_count h in
    (n, c.endpoint_range_of-range.ensures ∙ ap endpoint_range_of h, omega (arith, c.requires.endpoints_most))

pub overflow_cast-n : goal.overflow_cast-n
overflow_cast-n c = omega (arith, (counted c.before).2)

pub with_endpoints-b-requires : goal.with_endpoints-b-requires
with_endpoints-b-requires c = (c.requires, (counted c.before).0, (counted c.before).1)

pub endpoints_end-requires : goal.endpoints_end-requires
endpoints_end-requires c = (c.endpoint_count-n.ensures.0, c.endpoint_range_of-range.ensures, (counted c.before.before).2)

pub returns : goal.returns
unfolding piled mode_cells
returns c =
    let h = c.header_of-h.ensures in
    placed c.with_block.ensures (c.weights_from.ensures.0 ∙ ap (λ (x : BlockHeader). 128 - weight_bits x.grid) h)
    (appended c.append-b-3.ensures (c.extra_from.ensures ∙ ap (λ (x : BlockHeader). 128 - weight_bits x.grid - extra_bits x.partitions x.selector) h)
    (appended c.append-b-2.ensures (c.component_from.ensures ∙ ap component_from h)
    (appended c.append-b.ensures (c.endpoints_end.ensures ∙ ap endpoints_end h)
    (placed c.with_endpoints-b.ensures refl c.settings.ensures refl)
    refl)
    (c.wide.ensures.0 ∙ ap (λ (x : BlockHeader). x.component) h))
    (ap (λ (x : ℕ). x / 16) (c.modes_code-code.ensures ∙ ap modes_code h)))
    c.weights_of.ensures
