use mathlib.Core.Path.{◌≡◌}
use native.Mathlib.Omega.{arith}
use Prim.Native.Nat.{◌*◌, ◌^◌}
use Rattle.quantization.specs.Ranges.{most_at}
use Rattle.quantization.proofs.Ranges.{bits_le, reach, reach_le, reach_pos}
use borrow.Author.Rules.{rules}
use Rattle.quantization.proofs.most_at.Goals as goal
use Rattle.quantization.proofs.most_at.Goals.{After-bits_at-bits}

product : (c : After-bits_at-bits) → c.radix_of-radix.result * 2 ^ c.bits_at-bits.result ≡ reach c.args.range
product c = rw (c.bits_at-bits.ensures, c.radix_of-radix.ensures, c.encoding_at.ensures)

pub overflow_shl-result : goal.overflow_shl-result
overflow_shl-result c = omega (arith, c.bits_at-bits.ensures, bits_le c.args.range)

pub overflow_sub-result : goal.overflow_sub-result
overflow_sub-result c = omega (arith, product c, reach_le c.args.range, reach_pos c.args.range)

pub overflow_cast-result-2 : goal.overflow_cast-result-2
overflow_cast-result-2 c = omega (arith, product c, reach_le c.args.range, reach_pos c.args.range)

pub returns : goal.returns
unfolding most_at
returns c = omega (arith, product c, reach_le c.args.range)
