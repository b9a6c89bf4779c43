-- What the tables of the codes hold, and a group's numbers as one number: a byte for each.
-- Assumes nothing.
use Rattle.std.specs.Prelude.{ℕ, ◌+◌, ◌*◌}
use Rattle.bits.specs.Field.{stream}
use Rattle.encoding.specs.Encoding.{group_size}
use Rattle.encoding.specs.declared.Encoding.{Encoding}
use Rattle.integer_sequence.specs.Codes.{digit}
use Rattle.integer_sequence.specs.Reading.{number}

-- all digits of a code, digit k in byte k
unfoldable pub digits_entry : Encoding → ℕ → ℕ
unfolding stream digit
digits_entry e t = stream (λ k. 8 * k) (digit e t) (group_size e)

-- those of four codes between each other, each `step` bits above the one before
unfoldable pub four_entries : Encoding → ℕ → ℕ → ℕ
unfolding stream digits_entry
four_entries e step i = stream (λ j. step * j) (λ j. digits_entry e (4 * i + j)) 4

-- the numbers of the first group of g, number k in byte k
unfoldable pub group_numbers : Encoding → ℕ → ℕ → ℕ
unfolding stream number
group_numbers e b g = stream (λ k. 8 * k) (number e b g) (group_size e)
