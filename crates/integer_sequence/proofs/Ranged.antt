-- The calls by quantisation range, step by step.
-- Assumes nothing.
use mathlib.Core.Path.{◌≡◌}
use Prim.Native.Nat.{ℕ, ◌*◌, ◌≤◌, min}
use native.Mathlib.Nat.{mul-le-mul}
use native.Mathlib.Omega.{arith}
use Rattle.laws.proofs.Filling.{padded_cap}
use Rattle.encoding.specs.declared.Encoding.{Encoding}
use Rattle.encoding.specs.Encoding.{sequence_bits}
use Rattle.encoding.proofs.Laws.{code_le}
use Rattle.integer_sequence.specs.Reading.{number, numbers, stored}

pub bits_small : (κ : Encoding) (b n : ℕ) → b ≤ 255 → n ≤ 255 → sequence_bits κ b n ≤ 65790
unfolding sequence_bits
bits_small κ b n h l = let m : n * b ≤ 255 * 255 = mul-le-mul {n₂ = 255} {m₂ = 255} l h in omega (arith, code_le κ n)

-- more than 64 numbers count as 64
pub numbers_cap : (κ : Encoding) (b s n : ℕ) → numbers κ b s (min n 64) ≡ numbers κ b s n
unfolding numbers
numbers_cap κ b s n = padded_cap (λ i. stored (number κ b s i)) (stored 0) 64 n
