use mathlib.Core.Path.{◌≡◌, refl, ap, ap₂, ◌∙◌}
use Prim.Native.Nat.{ℕ, ◌+◌, ◌*◌, ◌%◌, ◌≤◌}
use native.Mathlib.Omega.{arith}
use native.Mathlib.Nat.{mul-le-mul}
use native.Mathlib.Numerals.{add-one}
use borrow.Author.Tests.{eq-eqb, ne_eqb}
use Rattle.bits.specs.Field.{stream}
use Rattle.symbolic_block.specs.Writing.{class_bit, modes_code}
use Rattle.symbolic_writer.proofs.modes_code.Goals as goal
use Rattle.symbolic_writer.proofs.modes_code.Goals.{After-power-2, After-power-in-loop-i}

pub wide-requires : goal.wide-requires
wide-requires c = tt

pub returns-then-selector-eq0 : goal.returns-then-selector-eq0
unfolding modes_code
returns-then-selector-eq0 c = c.wide.ensures.0 ∙ rw (eq-eqb _ _ c.if-selector-eq0.true)

pub loop-i-init : goal.loop-i-init
unfolding stream
loop-i-init c = (refl, refl, omega arith, omega arith)

pub wide-m-requires : goal.wide-m-requires
wide-m-requires c = tt

pub class_bit-requires : goal.class_bit-requires
class_bit-requires c = omega (arith, c.wide-m.ensures.1)

pub overflow_mul-classes : goal.overflow_mul-classes
overflow_mul-classes c = omega (arith, mul-le-mul {n₂ = 1} {m₂ = 256} c.class_bit.ensures.1 c.power.ensures.1)

pub overflow_add-classes : goal.overflow_add-classes
overflow_add-classes c = omega (arith, mul-le-mul {n₂ = 1} {m₂ = 256} c.class_bit.ensures.1 c.power.ensures.1)

low_most : (c : After-power-in-loop-i) → c.wide-m.result % 4 * c.power-in-loop-i.result ≤ 3 * 256
low_most c = mul-le-mul {n₂ = 3} {m₂ = 256} (omega arith) c.power-in-loop-i.ensures.1

pub overflow_mul-lows : goal.overflow_mul-lows
overflow_mul-lows c = omega (arith, low_most c)

pub overflow_add-lows : goal.overflow_add-lows
overflow_add-lows c = omega (arith, low_most c)

pub loop-i-preserved : goal.loop-i-preserved
unfolding stream
loop-i-preserved c =
    let l = c.loop-i in
    let m = c.wide-m in (
      rw (add-one l.i) (ap₂ ◌+◌ (ap₂ ◌*◌ (c.class_bit.ensures.0 ∙ ap (class_bit _) m.ensures.0) c.power.ensures.0) l.invariant.0),
      rw (add-one l.i) (ap₂ ◌+◌ (ap₂ ◌*◌ (ap (λ (x : ℕ). x % 4) m.ensures.0) c.power-in-loop-i.ensures.0) l.invariant.1),
      omega (arith, mul-le-mul {n₂ = 1} {m₂ = 256} c.class_bit.ensures.1 c.power.ensures.1),
      omega (arith, low_most c),
    )

high_most : (c : After-power-2) → c.loop-i.lows * c.power-2.result ≤ 3072 * 256
high_most c = mul-le-mul {n₂ = 3072} {m₂ = 256} (omega arith) c.power-2.ensures.1

pub overflow_mul-result : goal.overflow_mul-result
overflow_mul-result c = omega (arith, high_most c)

pub overflow_add-result : goal.overflow_add-result
overflow_add-result c = omega (arith, high_most c)

pub returns : goal.returns
unfolding modes_code
returns c =
    let h = c.args.h in
    let l = c.loop-i in
    let e : l.i ≡ h.partitions = omega arith in
    rw (c.power-2.ensures.0, l.invariant.0, l.invariant.1, e, ne_eqb h.selector 0 c.if-selector-eq0.false)
