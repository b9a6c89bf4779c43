use Prim.Native.Nat.{ℕ, ◌≤◌}
use mathlib.Core.Path.{◌≡◌, refl, sym, ap, ◌∙◌}
use native.Mathlib.Omega.{arith}
use Rattle.bc7_layout.proofs.Rows.{p_one, p_none, p_bits_fit}
use borrow.Author.Rules.{rules}
use Rattle.bc7_layout.proofs.p_bit_width.Goals as goal

pub overflow_mul-w-2 : goal.overflow_mul-w-2
overflow_mul-w-2 c = let w = c.mode_row-w.result in let z : w.ends ≤ 255 = omega arith in let y : w.shared ≤ 255 = omega arith in let x : w.subsets ≤ 255 = omega arith in omega (arith, p_bits_fit w.ends w.shared w.subsets z y x)

pub returns-then-j-w : goal.returns-then-j-w
returns-then-j-w c = (p_one _ _ c.mode_row-w.ensures _ c.if-j-w.true, omega arith)

pub returns-else-j-w : goal.returns-else-j-w
returns-else-j-w c = (p_none _ _ c.mode_row-w.ensures _ c.if-j-w.false, omega arith)
