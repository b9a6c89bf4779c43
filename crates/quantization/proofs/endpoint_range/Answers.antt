use mathlib.Core.Path.{◌≡◌, refl, sym, ◌∙◌}
use Prim.Native.Nat.{◌≤◌}
use native.Mathlib.Omega.{arith}
use borrow.Author.Rules.{rules}
use Rattle.quantization.specs.Ranges.{largest_to, endpoint_range}
use Rattle.quantization.proofs.Ranges.{here, down}
use Rattle.quantization.proofs.endpoint_range.Goals as goal

pub loop-i-init : goal.loop-i-init
unfolding endpoint_range
loop-i-init c = (omega arith, refl)

pub total_at-requires : goal.total_at-requires
total_at-requires c =
    let q = c.before.before in
    (omega (arith, c.if-i-eq0.false), c.loop-i.invariant.0, omega arith, rw (q.code_bits-quints.ensures, q.code_bits-trits.ensures))

pub overflow_add-result : goal.overflow_add-result
overflow_add-result c = omega (arith, c.loop-i.invariant.0)

pub overflow_sub-i : goal.overflow_sub-i
overflow_sub-i c = omega (arith, c.if-i-eq0.false)

pub loop-i-smaller : goal.loop-i-smaller
loop-i-smaller c = omega (arith, c.if-i-eq0.false)

pub loop-i-preserved : goal.loop-i-preserved
loop-i-preserved c =
    let l = c.loop-i in
    (omega (arith, l.invariant.0), l.invariant.1 ∙ down _ _ l.i (omega (arith, c.if-i-eq0.false)) (omega (arith, c.if-total_at-most.false, c.total_at.ensures)))

pub returns-then-i-eq0 : goal.returns-then-i-eq0
unfolding largest_to
returns-then-i-eq0 c = sym (rw c.if-i-eq0.true at c.loop-i.invariant.1)

pub returns-then-total_at-most : goal.returns-then-total_at-most
returns-then-total_at-most c =
    let l = c.loop-i in
    sym (l.invariant.1 ∙ here _ _ l.i (omega (arith, c.if-i-eq0.false)) (omega (arith, c.if-total_at-most.true, c.total_at.ensures)))
