use mathlib.Core.Path.{◌≡◌, sym, ◌∙◌}
use mathlib.Core.Bool.{false}
use Prim.Native.Nat.{ℕ, ◌*◌, ◌≤◌}
use native.Mathlib.Omega.{arith}
use Rattle.image_size.specs.Sides.{bad_side}
use Rattle.image_size.proofs.Laws.{limit_le, side_fine, product_most}
use Rattle.stallbrook_faults.specs.Calls.{buffer_numbers}
use Rattle.stallbrook_faults.proofs.stallbrook_astc_image_numbers.Goals as goal

-- a product of sides that are not refused
most : (w h : ℕ) → bad_side w ≡ false → bad_side h ≡ false → h * w ≤ 268435456
most w h a b = let l = limit_le in product_most h w (omega (arith, (side_fine h b).1)) (omega (arith, (side_fine w a).1))

pub returns-then-bad_side : goal.returns-then-bad_side
unfolding buffer_numbers
returns-then-bad_side c = rw (← c.bad_side.ensures, c.if-bad_side.true)

pub returns-then-bad_side-2 : goal.returns-then-bad_side-2
unfolding buffer_numbers
returns-then-bad_side-2 c = rw (← c.bad_side.ensures, c.if-bad_side.false, ← c.bad_side-2.ensures, c.if-bad_side-2.true)

pub overflow_mul-result : goal.overflow_mul-result
overflow_mul-result c = omega (arith, most _ _ (sym c.bad_side.ensures ∙ c.if-bad_side.false) (sym c.bad_side-2.ensures ∙ c.if-bad_side-2.false))

pub overflow_mul-result-2 : goal.overflow_mul-result-2
overflow_mul-result-2 c = omega (arith, most _ _ (sym c.bad_side.ensures ∙ c.if-bad_side.false) (sym c.bad_side-2.ensures ∙ c.if-bad_side-2.false))

pub returns : goal.returns
unfolding buffer_numbers
returns c = rw (← c.bad_side.ensures, c.if-bad_side.false, ← c.bad_side-2.ensures, c.if-bad_side-2.false)
