-- What only the code asks of a sequence: numbers that fit a byte, and a sequence laid into a block.
-- Assumes nothing.
use Rattle.std.specs.Prelude.{ℕ, ◌+◌, ◌*◌, ◌%◌, ◌^◌, ◌≤◌, List}
use Rattle.bits.specs.Field.{field}
use Rattle.encoding.specs.Encoding.{radix}
use Rattle.encoding.specs.declared.Encoding.{Encoding}
use Rattle.integer_sequence.specs.Writing.{packed}

-- numbers with b bits each fit a byte
abbrev pub Narrow : Encoding → ℕ → Type 0
Narrow e b = radix e * 2 ^ b ≤ 256

-- the block with number B, its bits below bit `from` kept, and from there on the sequence of the numbers xs
unfoldable pub with_sequence : Encoding → ℕ → ℕ → ℕ → List ℕ → ℕ
unfolding field packed
with_sequence e b B from xs = (field B 0 from + packed e b xs * 2 ^ from) % 2 ^ 128
