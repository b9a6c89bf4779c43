-- 01, "Packed numbers": how many bits a sequence takes. 000, "Integer Sequence Encoding".
-- Assumes nothing.
use Rattle.std.specs.Prelude.{ℕ, ◌+◌, ◌*◌, ◌/◌}
use Rattle.encoding.specs.declared.Encoding.{Encoding}
use Rattle.encoding.specs.declared.Encoding.TheVariants.{Bits, Trits, Quints}

-- how many numbers share a code
abbrev pub group_size : Encoding → ℕ
group_size Bits = 1
group_size Trits = 5
group_size Quints = 3

-- a digit is below this
abbrev pub radix : Encoding → ℕ
radix Bits = 1
radix Trits = 3
radix Quints = 5

-- the bits of code that n numbers take: ceil(8n/5) with trits, ceil(7n/3) with quints
abbrev pub code_bits : Encoding → ℕ → ℕ
code_bits Bits n = 0
code_bits Trits n = (8 * n + 4) / 5
code_bits Quints n = (7 * n + 2) / 3

-- "n numbers with b bits each take nb bits, plus ceil(8n/5) with trits, ceil(7n/3) with quints."; also the place where number n begins
unfoldable pub sequence_bits : Encoding → ℕ → ℕ → ℕ
sequence_bits e b n = n * b + code_bits e n
