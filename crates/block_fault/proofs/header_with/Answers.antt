use mathlib.Core.Path.{◌≡◌, ap, ◌∙◌}
use Prim.Native.Nat.{◌+◌, ◌-◌, ◌*◌, ◌≤◌, ◌<◌}
use native.Mathlib.Omega.{arith}
use Rattle.bits.specs.Field.{field}
use Rattle.bits.specs.Block.{block_number}
use Rattle.bits.proofs.Fields.{field_none}
use Rattle.block_fault.proofs.Laws.{Narrow, narrow, extra_le, extra_none, component_le, made}
use Rattle.block_fault.proofs.header_with.Goals as goal
use Rattle.block_fault.proofs.header_with.Goals.{After-field_at-base, After-field_at-component, After-field_at-extra, After-field_at-index, After-selector_bits-selector_width, Start}

-- where the function began
abbrev begin : After-selector_bits-selector_width → Start
begin w = w.before.before.before.before

-- the widths of the fields at the top
widths : (w : After-selector_bits-selector_width) → ((begin w).args.weights ≤ 96) × (w.extra_bits-extra_width.result ≤ 8) × (w.component_bits-component_width.result ≤ 2)
widths w =
    let a = (begin w).args in
    let p = (begin w).requires in
    (p.4, rw w.extra_bits-extra_width.ensures.0 (extra_le a.partitions a.selector p.0), rw w.component_bits-component_width.ensures.0 (component_le a.g.planes p.2))

extra_is : (c : After-field_at-extra) → let w = c.before in
    Narrow (block_number (begin w).args.b) (128 - (begin w).args.weights - w.extra_bits-extra_width.result) w.extra_bits-extra_width.result 8 c.field_at-extra.result
extra_is c = narrow _ _ _ 8 (widths c.before).1 (omega arith) c.field_at-extra.ensures

base_is : (c : After-field_at-base) → let w = c.before.before in
    Narrow (block_number (begin w).args.b) (13 + w.index_bits-index_width.result + w.selector_bits-selector_width.result) 4 4 c.field_at-base.result
base_is c = narrow _ _ 4 4 (omega arith) (omega arith) c.field_at-base.ensures

component_is : (c : After-field_at-component) → let w = c.before.before.before in
    Narrow (block_number (begin w).args.b) (128 - (begin w).args.weights - w.extra_bits-extra_width.result - w.component_bits-component_width.result) w.component_bits-component_width.result 2 c.field_at-component.result
component_is c = narrow _ _ _ 2 (widths c.before.before.before).2 (omega arith) c.field_at-component.ensures

index_is : (c : After-field_at-index) → let w = c.before.before.before.before in
    Narrow (block_number (begin w).args.b) 13 w.index_bits-index_width.result 10 c.field_at-index.result
index_is c = narrow _ 13 _ 10 c.index_bits-index_width.ensures.1 (omega arith) c.field_at-index.ensures

-- with selector 0 there are no extra bits
none : (c : After-field_at-index) → (begin c.before.before.before.before).args.selector ≡ 0 → c.field_at-extra.result * 16 + c.field_at-base.result < 16
none c e =
    let w = c.before.before.before.before in
    let a = (begin w).args in
    let z : w.extra_bits-extra_width.result ≡ 0 = w.extra_bits-extra_width.ensures.0 ∙ extra_none a.partitions a.selector e in
    let f : c.field_at-extra.result ≡ 0 = (extra_is c.before.before.before).is ∙ ap (field _ _) z ∙ field_none _ _ in
    omega (arith, (base_is c.before.before).below)

pub overflow_sub-extra_from-2 : goal.overflow_sub-extra_from-2
overflow_sub-extra_from-2 c = omega (arith, widths c)

pub overflow_cast-extra : goal.overflow_cast-extra
overflow_cast-extra c = omega (arith, (extra_is c).below)

pub overflow_cast-base : goal.overflow_cast-base
overflow_cast-base c = omega (arith, (base_is c).below)

pub overflow_sub-extra_from-3 : goal.overflow_sub-extra_from-3
overflow_sub-extra_from-3 c = omega (arith, widths c.before.before)

pub overflow_cast-component : goal.overflow_cast-component
overflow_cast-component c = omega (arith, (component_is c).below)

pub overflow_cast-index : goal.overflow_cast-index
overflow_cast-index c = omega (arith, (index_is c).below)

pub overflow_mul-extra : goal.overflow_mul-extra
overflow_mul-extra c = omega (arith, (extra_is c.before.before.before).below)

pub overflow_add-extra : goal.overflow_add-extra
overflow_add-extra c = omega (arith, (extra_is c.before.before.before).below, (base_is c.before.before).below)

pub modes_for-modes-requires : goal.modes_for-modes-requires
modes_for-modes-requires c = (omega arith, omega arith, λ e. none c e)

pub returns : goal.returns
returns c =
    let w = c.before.before.before.before.before in
    let a = (begin w).args in
    made (block_number a.b) a.g a.partitions a.selector
    w.extra_bits-extra_width.ensures.0 w.component_bits-component_width.ensures.0 w.index_bits-index_width.ensures.0 w.selector_bits-selector_width.ensures.0 (begin w).requires.3
    (extra_is c.before.before.before.before).is (base_is c.before.before.before).is (component_is c.before.before).is (index_is c.before).is c.modes_for-modes.ensures
