use Prim.Native.Nat.{ℕ, ◌+◌, ◌*◌, ◌/◌, ◌^◌, ◌≤◌, ◌<◌}
use native.Mathlib.Nat.{mul-le-mul}
use native.Mathlib.Omega.{arith}
use lib.Bits.{bit_xor, xor_lt}
use borrow.Author.Tests.{lt-ltb, le-ltb}
use Rattle.quantization.specs.inner.Products.{by_rule}
use borrow.Author.Rules.{rules}
use Rattle.quantization.proofs.unquantize.Goals as goal
use Rattle.quantization.proofs.unquantize.Goals.{After-wide-4}

-- a byte times a number of 16 bits
product : (x y : ℕ) → x ≤ 255 → y ≤ 65535 → x * y ≤ 255 * 65535
product x y hx hy = mul-le-mul {n₂ = 255} {m₂ = 65535} hx hy

module _ (c : After-wide-4) where
  abbrev a : ℕ
  a = c.wide.result * c.args.rule.5

  abbrev b : ℕ
  b = c.wide-2.result * c.args.rule.4 / 128

  abbrev d : ℕ
  d = c.wide-3.result * c.args.rule.1 / 256

  ones : a ≤ 255 * 65535
  ones = product _ _ (omega arith) (omega arith)

  low : b ≤ 255 * 65535 / 128
  low = let p = product c.wide-2.result c.args.rule.4 (omega arith) (omega arith) in omega arith

  digit : d ≤ 65535
  digit = let p = product c.wide-3.result c.args.rule.1 (omega arith) (omega arith) in omega arith

  high : d * c.wide-4.result ≤ 65535 * 255
  high = mul-le-mul {n₂ = 65535} {m₂ = 255} digit (omega arith)

  unq : bit_xor (d * c.wide-4.result + b) a < 2 ^ 32
  unq = xor_lt 32 (d * c.wide-4.result + b) a (omega (arith, high, low)) (omega (arith, ones))

pub overflow_mul-a : goal.overflow_mul-a
overflow_mul-a c = omega (arith, product c.wide.result c.args.rule.5 (omega arith) (omega arith))

pub overflow_mul-b : goal.overflow_mul-b
overflow_mul-b c = omega (arith, product c.wide-2.result c.args.rule.4 (omega arith) (omega arith))

pub overflow_mul-d : goal.overflow_mul-d
overflow_mul-d c = omega (arith, product c.wide-3.result c.args.rule.1 (omega arith) (omega arith))

pub overflow_mul-unq : goal.overflow_mul-unq
overflow_mul-unq c = omega (arith, high c)

pub overflow_add-unq : goal.overflow_add-unq
overflow_add-unq c = omega (arith, high c, low c)

pub overflow_add-level : goal.overflow_add-level
overflow_add-level c = omega (arith, ones c)

pub overflow_add-level-2 : goal.overflow_add-level-2
overflow_add-level-2 c = omega (arith, ones c, unq c)

pub returns-then-rule-v : goal.returns-then-rule-v
unfolding by_rule
returns-then-rule-v c = rw (lt-ltb _ _ c.if-rule-v.true)

pub returns-else-rule-v : goal.returns-else-rule-v
unfolding by_rule
returns-else-rule-v c = rw (le-ltb _ _ c.if-rule-v.false, c.wide-4.ensures.0, c.wide-3.ensures.0, c.wide-2.ensures.0, c.wide.ensures.0)
