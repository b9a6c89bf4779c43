-- 01, "Bits of a block": sixteen bytes as one number of 128 bits, and back.
-- Assumes nothing.
use Rattle.std.specs.Prelude.{ℕ, ◌+◌, ◌*◌, ◌^◌, List, length, get_or}
use Rattle.laws.specs.Table.{tab}
use Rattle.bits.specs.Field.{field, stream}
use Rattle.bits.specs.declared.PhysicalBlock.{PhysicalBlock}

-- "Byte 0 holds bits 0..7": byte k lies at bit 8k
unfoldable pub number_of : List ℕ → ℕ
unfolding stream
number_of s = stream (λ k. 8 * k) (λ k. get_or s k 0) (length s)

-- the n bytes of a number
unfoldable pub bytes_of : ℕ → ℕ → List ℕ
unfolding tab field
bytes_of n v = tab (λ k. field v (8 * k) 8) n

-- the number that the two halves of a block hold
unfoldable pub block_number : PhysicalBlock → ℕ
block_number b = b.hi * 2 ^ 64 + b.lo
