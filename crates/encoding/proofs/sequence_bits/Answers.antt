use mathlib.Core.Path.{◌≡◌}
use Prim.Native.Nat.{ℕ, ◌*◌, ◌≤◌}
use native.Mathlib.Nat.{mul-le-mul}
use native.Mathlib.Omega.{arith}
use borrow.Author.Rules.{rules}
use Rattle.encoding.specs.Encoding.{sequence_bits}
use Rattle.encoding.proofs.Laws.{code_le}
use Rattle.encoding.proofs.sequence_bits.Goals as goal

product : (c : goal.Start) → c.args.n * c.args.b ≤ 4294967295 * 255
product c = mul-le-mul {n₂ = 4294967295} {m₂ = 255} (omega arith) (omega arith)

pub overflow_mul-result : goal.overflow_mul-result
overflow_mul-result c = omega (arith, product c)

pub overflow_add-result : goal.overflow_add-result
overflow_add-result c = omega (arith, product c.before, code_le c.args.encoding c.args.n)

pub returns : goal.returns
unfolding sequence_bits
returns c = rw c.code_bits.ensures
