-- The bits of one group by itself, given its code.
-- Assumes nothing.
use Rattle.std.specs.Prelude.{◌≡◌, List, ℕ, ◌+◌, ◌*◌, ◌%◌, ◌^◌, ◌≤◌, get_or}
use Rattle.bits.specs.Field.{field, stream}
use Rattle.encoding.specs.Encoding.{code_bits, sequence_bits}
use Rattle.encoding.specs.declared.Encoding.{Encoding}
use Rattle.integer_sequence.specs.Reading.{share_bits}

-- what stands for number k of the group xs: its b bits, and its share of the code above
unfoldable pub piece : Encoding → ℕ → ℕ → List ℕ → ℕ → ℕ
unfolding field
piece e b code xs k = field code (code_bits e k) (share_bits e k) * 2 ^ b + get_or xs k 0 % 2 ^ b

-- the first m numbers of the group
unfoldable pub group_word : Encoding → ℕ → ℕ → List ℕ → ℕ → ℕ
unfolding stream piece sequence_bits
group_word e b code xs m = stream (sequence_bits e b) (piece e b code xs) m

-- 0 from place m on
abbrev pub Absent : ℕ → List ℕ → Type 0
Absent m xs = (k : ℕ) → m ≤ k → get_or xs k 0 ≡ 0
