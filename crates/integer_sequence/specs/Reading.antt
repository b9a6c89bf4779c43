-- 000, "Integer Sequence Encoding", and 01, "Packed numbers": the numbers of a sequence.
-- Assumes nothing.
use Rattle.std.specs.Prelude.{ℕ, suc, ◌+◌, ◌-◌, ◌*◌, ◌/◌, ◌%◌, ◌^◌, List}
use Rattle.laws.specs.Table.{padded}
use Rattle.bits.specs.Field.{field, stream}
use Rattle.encoding.specs.Encoding.{group_size, code_bits, sequence_bits}
use Rattle.encoding.specs.declared.Encoding.{Encoding}
use Rattle.encoding.specs.declared.Stored.{Stored}
use Rattle.integer_sequence.specs.Codes.{digit}

-- the code bits that follow number i's own bits: 2, 2, 1, 2, 1 with trits, 3, 2, 2 with quints
abbrev pub share_bits : Encoding → ℕ → ℕ
share_bits e i = code_bits e (suc i) - code_bits e i

-- number i's share of its group's code: what lies between its b bits and the next number
unfoldable pub share : Encoding → ℕ → ℕ → ℕ → ℕ
unfolding field sequence_bits
share e b s i = field s (sequence_bits e b i + b) (share_bits e i)

-- the code of group g
unfoldable pub code_at : Encoding → ℕ → ℕ → ℕ → ℕ
unfolding stream share
code_at e b s g = stream (code_bits e) (λ k. share e b s (g * group_size e + k)) (group_size e)

-- number i of the sequence s with b bits each: "A stored number is its digit times 2^b plus its b bits."
unfoldable pub number : Encoding → ℕ → ℕ → ℕ → ℕ
unfolding field digit code_at sequence_bits
number e b s i = digit e (code_at e b s (i / group_size e)) (i % group_size e) * 2 ^ b + field s (sequence_bits e b i) b

-- the sequence of n numbers that begins at bit `from` of B: "Bits past the end are read as 0."
unfoldable pub sequence_at : Encoding → ℕ → ℕ → ℕ → ℕ → ℕ
unfolding field sequence_bits
sequence_at e b B from n = field B from (sequence_bits e b n)

abbrev pub stored : ℕ → Stored
stored v = record { 0 = v }

-- the first n numbers of the sequence s in a list of 64, the others 0
unfoldable pub numbers : Encoding → ℕ → ℕ → ℕ → List Stored
unfolding padded number
numbers e b s n = padded 64 n (λ i. stored (number e b s i)) (stored 0)
