-- Beyond 02, b: "one agreed form of each frame". A block, and all blocks of an image (01: picture), rewritten in their canonical form: what the calls
-- refuse, answer and leave. 02, i: faults are those of kind 2's list, `Float16`.
-- Assumes nothing.
use Rattle.std.specs.Prelude.{ℕ, ◌*◌, ◌/◌, ◌%◌, true, not, List, [], ◌∷◌, eqb, ltb, length, Result}
use Rattle.laws.specs.Choice.{pick, either}
use Rattle.laws.specs.Reasons.{when, first_of}
use Rattle.laws.specs.Table.{tab}
use Rattle.bits.specs.Field.{field}
use Rattle.bits.specs.Block.{number_of, bytes_of}
use Rattle.image_size.specs.Sides.{bad_side, blocks_of}
use Rattle.interpolation.specs.declared.Kind.TheVariants.{Float16}
use Rattle.block_fault.specs.Faults.{fault_of}
use Rattle.block_reading.specs.Canonical.{canonical_in}
use Rattle.block_answer.specs.declared.Answer.{Answer}
use Rattle.block_answer.specs.declared.Answer.TheVariants.{Refused}
use Rattle.block_answer.specs.Told.{answer_for}
use Rattle.reason.specs.declared.Refusal.{Refusal}
use Rattle.reason.specs.Answers.{Answers}
use Rattle.image_layout.specs.declared.Tally.{Tally}
use Rattle.image_layout.specs.Numbers.{block_at}
use Rattle.image_layout.specs.Call.{Told, told_decoded, image_tally}

-- ---- one block

-- 1 footprint above 23 (02, h); 4 block bytes not exactly 16; 5 result buffer not exactly 16 bytes. 0 for none.
unfoldable pub one_refusal : ℕ → ℕ → ℕ → ℕ
one_refusal fp bytes places = first_of (when (ltb 23 fp) 1 ∷ when (not (eqb bytes 16)) 4 ∷ when (not (eqb places 16)) 5 ∷ [])

unfoldable pub one_answer : ℕ → List ℕ → ℕ → Answer
one_answer fp s places =
    pick (eqb (one_refusal fp (length s) places) 0) (answer_for (fault_of true fp (number_of s))) (Refused (one_refusal fp (length s) places))

-- the result buffer: the canonical form, which of a block with a fault is the block as it is; on a refusal what it held
unfoldable pub one_out : ℕ → List ℕ → List ℕ → List ℕ
one_out fp s old = pick (eqb (one_refusal fp (length s) (length old)) 0) (bytes_of 16 (canonical_in fp (number_of s))) old

-- ---- all blocks of an image

-- byte n of the blocks s rewritten: byte n % 16 of the canonical form of block n / 16
unfoldable pub canonical_byte : ℕ → List ℕ → ℕ → ℕ
canonical_byte fp s n = field (canonical_in fp (block_at s (n / 16))) (8 * (n % 16)) 8

unfoldable pub canonical_bytes : ℕ → List ℕ → List ℕ
canonical_bytes fp s = tab (canonical_byte fp s) (length s)

-- 1, 3 and 4 as an image call, 5 where the result buffer is not of as many bytes as the blocks; 0 for none
unfoldable pub canonical_refusal : ℕ → ℕ → ℕ → ℕ → ℕ → ℕ
canonical_refusal fp w h bytes places =
    first_of
    (when (ltb 13 fp) 1
    ∷ when (either (bad_side w) (bad_side h)) 3
    ∷ when (not (eqb bytes (16 * blocks_of fp w h))) 4
    ∷ when (not (eqb places bytes)) 5
    ∷ [])

-- what is answered: the refusal, or the count of blocks with a fault, and the first one's raster index and fault
abbrev pub canonical_answer : ℕ → ℕ → ℕ → List ℕ → ℕ → Result Tally Refusal → Type 0
canonical_answer fp w h s places = Answers (canonical_refusal fp w h (length s) places) (image_tally fp Float16 w h s)

-- the numbers told of it: on a refusal all others are 0
unfoldable pub canonical_told : ℕ → ℕ → ℕ → List ℕ → ℕ → Told
canonical_told fp w h s places =
    let e = canonical_refusal fp w h (length s) places in
    pick (eqb e 0) (told_decoded (image_tally fp Float16 w h s)) (record { refusal = e; count = 0; first = 0; fault = 0 })

-- the result buffer, on a refusal what it held; rewriting in place the buffer is the blocks' own: `canonical_out fp w h s s`
unfoldable pub canonical_out : ℕ → ℕ → ℕ → List ℕ → List ℕ → List ℕ
canonical_out fp w h s old = pick (eqb (canonical_refusal fp w h (length s) (length old)) 0) (canonical_bytes fp s) old
