use mathlib.Core.Path.{◌≡◌, refl}
use Prim.Native.Nat.{ℕ, ◌+◌, ◌-◌, ◌*◌, ◌/◌, ◌%◌, ◌^◌, ◌≤◌, ◌<◌}
use native.Mathlib.Nat.{mul-le-mul}
use native.Mathlib.Omega.{arith}
use lib.ListN.{get_or}
use Rattle.laws.specs.Table.{tab_from, tab}
use Rattle.quantization.specs.Ranges.{encoding_at, bits_at, range_bits}
use Rattle.quantization.specs.inner.CodeBits.{codes_of}
use Rattle.quantization.proofs.Ranges.{packed_lt, packed_le, packed_total, code_most}
use borrow.Author.Rules.{rules}
use Rattle.quantization.proofs.total_at.Goals as goal
use Rattle.quantization.proofs.total_at.Goals.{Start, Untold}

-- the two packed numbers
abbrev bits : ℕ
bits = 9680298713422119443

abbrev digits : ℕ
digits = 418861572484

digit_lt : (c : Untold) → digits / 2 ^ (2 * (c.args.i - 1) + 10) % 4 < 3
unfolding tab tab_from encoding_at bits_at
digit_lt c = packed_lt bits digits refl refl c.args.i c.requires.0 c.requires.1

bits_le : (c : Start) → bits / 2 ^ (4 * (c.args.i - 1)) % 16 ≤ 8
unfolding tab tab_from encoding_at bits_at
bits_le c = packed_le bits digits refl refl c.args.i c.requires.0 c.requires.1

total : (c : Start) (n : ℕ) → n * (bits / 2 ^ (4 * (c.args.i - 1)) % 16) + get_or (codes_of n) (digits / 2 ^ (2 * (c.args.i - 1) + 10) % 4) 0 ≡ range_bits (4 + c.args.i) n
unfolding tab tab_from encoding_at bits_at
total c n = packed_total bits digits refl refl c.args.i c.requires.0 c.requires.1 n

product : (c : Start) → c.args.n * (bits / 2 ^ (4 * (c.args.i - 1)) % 16) ≤ 4294967295 * 8
product c = mul-le-mul {n₂ = 4294967295} {m₂ = 8} c.requires.2 (bits_le c)

-- no code takes more bits than three for each number
code_le : (c : Start) → get_or c.args.codes (digits / 2 ^ (2 * (c.args.i - 1) + 10) % 4) 0 ≤ 3 * c.args.n + 2
code_le c = rw c.requires.3 (code_most c.args.n (digits / 2 ^ (2 * (c.args.i - 1) + 10) % 4))

pub overflow_add-result : goal.overflow_add-result
overflow_add-result c = omega (arith, product c, code_le c)

pub returns : goal.returns
returns c = rw c.requires.3 (total c c.args.n)

pub bounds-codes-c : goal.bounds-codes-c
bounds-codes-c c = digit_lt c
