-- 02, l: what the calls that read and write a sheet as a list of sixty numbers answer, and what they leave.
-- Assumes nothing.
use Rattle.std.specs.Prelude.{ℕ, List, eqb, length, get_or}
use Rattle.laws.specs.Choice.{pick, both}
use Rattle.laws.specs.Table.{tab}
use Rattle.block_answer.specs.Told.{number_told}
use Rattle.bc7_block.specs.declared.Bc7Block.{Bc7Block}
use Rattle.bc7_block.specs.Reading.{bc7_block}
use Rattle.bc7_codec.specs.Numbers.{sheet_number}
use Rattle.bc7_calls.specs.Calls.{reading_of, writing_of}

-- ---- the reader

-- the answer for the bytes s and a list of so many numbers; 5, after 4, where it is not of sixty
unfoldable pub read_number : List ℕ → ℕ → ℕ
unfolding reading_of
read_number s n = pick (eqb n 60) (number_told (reading_of s).answer) (pick (eqb (length s) 16) 5 4)

-- the list after the call: the sheet, zeros with 4 and 71; what it held where it is not of sixty
unfoldable pub read_numbers : List ℕ → List ℕ → List ℕ
unfolding reading_of sheet_number tab
read_numbers s old = pick (eqb (length old) 60) (tab (sheet_number (reading_of s).block) 60) old

-- ---- the writer

-- the sheet of sixty numbers
unfoldable pub sheet_from : List ℕ → Bc7Block
unfolding bc7_block
sheet_from numbers = bc7_block (get_or numbers 0 0) (λ k. get_or numbers k 0)

-- the answer for a block of n bytes: 4 unless there are sixteen, then 5 unless there are sixty numbers, then the writer's
unfoldable pub write_number : List ℕ → ℕ → ℕ
unfolding writing_of sheet_from
write_number numbers n = pick (eqb n 16) (pick (eqb (length numbers) 60) (number_told (writing_of (sheet_from numbers)).answer) 5) 4

-- the block after the call: the bytes written, zeros on a refusal of the sheet; what it held where a length is wrong
unfoldable pub write_block : List ℕ → List ℕ → List ℕ
unfolding writing_of sheet_from
write_block numbers old = pick (both (eqb (length old) 16) (eqb (length numbers) 60)) (writing_of (sheet_from numbers)).bytes old
