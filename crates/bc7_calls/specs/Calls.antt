-- 02, l: what the one-block call, the reader and the writer of sheets answer and leave, for every input.
-- Assumes nothing.
use Rattle.std.specs.Prelude.{ℕ, not, List, [], ◌∷◌, eqb, length}
use Rattle.laws.specs.Choice.{pick}
use Rattle.laws.specs.Reasons.{when, first_of}
use Rattle.laws.specs.Table.{tab}
use Rattle.bits.specs.Block.{number_of, bytes_of}
use Rattle.block_answer.specs.declared.Answer.{Answer}
use Rattle.block_answer.specs.declared.Answer.TheVariants.{Refused, Done}
use Rattle.block_answer.specs.Told.{answer_for}
use Rattle.bc7_block.specs.declared.Bc7Block.{Bc7Block}
use Rattle.bc7_block.specs.Refusals.{refusal_of}
use Rattle.bc7_block.specs.Reading.{fault_of, read_block, zero_block}
use Rattle.bc7_block.specs.Writing.{block_of}
use Rattle.bc7_core.specs.Bytes.{shown_bytes}
use Rattle.bc7_calls.specs.declared.Bc7Reading.{Bc7Reading}
use Rattle.bc7_calls.specs.declared.Bc7Writing.{Bc7Writing}

-- ---- the one-block call

-- "The reader takes one block: 4 unless 16 bytes, then 5 unless 64 result bytes."
unfoldable pub decode_refusal : ℕ → ℕ → ℕ
decode_refusal bytes places = first_of (when (not (eqb bytes 16)) 4 ∷ when (not (eqb places 64)) 5 ∷ [])

-- "A first byte of 0 gives 0, 0, 0, 0 for all sixteen texels, .. and is told as fault 71." (fault_of, shown_bytes)
unfoldable pub decode_answer : List ℕ → ℕ → Answer
unfolding decode_refusal answer_for fault_of
decode_answer s places =
    pick (eqb (decode_refusal (length s) places) 0) (answer_for (fault_of (number_of s))) (Refused (decode_refusal (length s) places))

-- the number of that answer
unfoldable pub decode_told : List ℕ → ℕ → ℕ
unfolding decode_refusal fault_of
decode_told s places = pick (eqb (decode_refusal (length s) places) 0) (fault_of (number_of s)) (decode_refusal (length s) places)

-- the result buffer after the call: "nothing is written" on a refusal
unfoldable pub decode_out : List ℕ → List ℕ → List ℕ
unfolding decode_refusal shown_bytes
decode_out s old = pick (eqb (decode_refusal (length s) (length old)) 0) (shown_bytes (number_of s)) old

-- ---- the reader of sheets

-- "their reader (4; 71 with zeros)"
unfoldable pub nothing : Answer → Bc7Reading
nothing a = record { answer = a; block = zero_block }

-- of a block's 128 bits
unfoldable pub reading_in : ℕ → Bc7Reading
unfolding nothing fault_of read_block answer_for
reading_in B = pick (eqb (fault_of B) 0) (record { answer = Done; block = read_block B }) (nothing (answer_for (fault_of B)))

unfoldable pub reading_of : List ℕ → Bc7Reading
unfolding nothing reading_in
reading_of s = pick (eqb (length s) 16) (reading_in (number_of s)) (nothing (Refused 4))

-- the number of that answer
unfoldable pub read_told : List ℕ → ℕ
unfolding fault_of
read_told s = pick (eqb (length s) 16) (fault_of (number_of s)) 4

-- ---- the writer

-- "The writer refuses, with sixteen zeros"
unfoldable pub refused_with : ℕ → Bc7Writing
refused_with n = record { answer = Refused n; bytes = tab (λ k. 0) 16 }

unfoldable pub writing_of : Bc7Block → Bc7Writing
unfolding refused_with refusal_of block_of bytes_of
writing_of s = pick (eqb (refusal_of s) 0) (record { answer = Done; bytes = bytes_of 16 (block_of s) }) (refused_with (refusal_of s))
