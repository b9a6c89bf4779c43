-- `half_float::toward_zero` meets its contract.
use mathlib.Core.Path.{◌≡◌}
use Prim.Native.Nat.{ℕ, ◌*◌, ◌%◌, ◌^◌}
use lib.Count.{count_leading_zeros}
use native.Mathlib.Omega.{arith}
use borrow.Author.Tests.{lt-ltb, le-ltb}
use Rattle.half_float.proofs.Rounding.{Shifted, shifted}
use Rattle.half_float.specs.Half.{toward_zero}
use borrow.Author.Rules.{rules}
use Rattle.half_float.proofs.toward_zero.Goals as goal

-- the number shifted past its leading zeros
abbrev top : goal.Else-c-lt4 → ℕ
top c = c.args.c * 2 ^ count_leading_zeros 16 c.args.c

at : (c : goal.Else-c-lt4) → Shifted c.args.c (count_leading_zeros 16 c.args.c)
at c = shifted c.args.c c.if-c-lt4.false (omega arith)

pub returns-then-c-lt4 : goal.returns-then-c-lt4
unfolding toward_zero
returns-then-c-lt4 c = rw (lt-ltb _ 4 c.if-c-lt4.true)

pub overflow_shl-top : goal.overflow_shl-top
overflow_shl-top c = omega (arith, (at c).zeros)

pub overflow_sub-result : goal.overflow_sub-result
overflow_sub-result c = (at c).zeros

pub overflow_cast-result : goal.overflow_cast-result
overflow_cast-result c = record { fits = omega (arith, (at c).zeros, (at c).high) }

pub returns : goal.returns
unfolding toward_zero
returns c = let w : top c % 4294967296 ≡ top c = omega (arith, (at c).high) in rw (w, le-ltb _ 4 c.if-c-lt4.false)
