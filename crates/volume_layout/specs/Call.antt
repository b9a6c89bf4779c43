-- 02, h: what a volume picture call refuses, answers and leaves in the result buffer: "in these refusal 1 is a footprint above 23", "Refusal 3 also
-- holds for a depth of 0 or above 2,048". Flat footprints are taken too: their blocks are one layer thick.
-- Assumes nothing.
use Rattle.std.specs.Prelude.{ℕ, ◌*◌, Bool, not, List, [], ◌∷◌, eqb, ltb, length, Result}
use Rattle.laws.specs.Choice.{pick, either}
use Rattle.laws.specs.Reasons.{when, first_of}
use Rattle.reason.specs.declared.Refusal.{Refusal}
use Rattle.reason.specs.Answers.{Answers}
use Rattle.image_size.specs.Sides.{bad_side, blocks_across}
use Rattle.footprint.specs.Footprint.{width_of, height_of, depth_of}
use Rattle.interpolation.specs.declared.Kind.{Kind}
use Rattle.block_reading.specs.declared.Reading.{Reading}
use Rattle.block_reading.specs.declared.Reading.TheVariants.{Ordinary}
use Rattle.image_layout.specs.declared.Tally.{Tally}
use Rattle.image_layout.specs.Numbers.{fault_at_in}
use Rattle.image_layout.specs.Faulty.{tally_of}
use Rattle.image_layout.specs.Call.{Told, told_decoded}
use Rattle.volume_layout.specs.Numbers.{texels_in, volume_numbers_in}

-- "a depth of 0 or above 2,048"
unfoldable pub depth_limit : ℕ
depth_limit = 2048

unfoldable pub bad_depth : ℕ → Bool
bad_depth n = either (eqb n 0) (ltb depth_limit n)

-- 3, of a width, a height or a depth
unfoldable pub bad_sizes : ℕ → ℕ → ℕ → Bool
bad_sizes w h d = either (bad_side w) (either (bad_side h) (bad_depth d))

-- how many blocks a volume has
unfoldable pub blocks_of : ℕ → ℕ → ℕ → ℕ → ℕ
blocks_of fp w h d = blocks_across d (depth_of fp) * blocks_across h (height_of fp) * blocks_across w (width_of fp)

-- "Refusals, tested in this order", of a call with so many block bytes and places for numbers; 0 for none
unfoldable pub volume_refusal : ℕ → ℕ → ℕ → ℕ → ℕ → ℕ → ℕ
volume_refusal fp w h d bytes places =
    first_of
    (when (ltb 23 fp) 1
    ∷ when (bad_sizes w h d) 3
    ∷ when (not (eqb bytes (16 * blocks_of fp w h d))) 4
    ∷ when (not (eqb places (4 * texels_in w h d))) 5
    ∷ [])

-- ---- the answer and the buffer, in a reading (02, b); the names without one are the ordinary reading's

-- the faults of a volume's blocks
unfoldable pub volume_tally_in : Reading → ℕ → Kind → ℕ → ℕ → ℕ → List ℕ → Tally
volume_tally_in reading fp kind w h d s = tally_of (fault_at_in reading fp kind s) (blocks_of fp w h d)

-- what is answered, for every input: the refusal, or the faults of the blocks
abbrev pub volume_answer_in : Reading → ℕ → Kind → ℕ → ℕ → ℕ → List ℕ → ℕ → Result Tally Refusal → Type 0
volume_answer_in reading fp kind w h d s places = Answers (volume_refusal fp w h d (length s) places) (volume_tally_in reading fp kind w h d s)

abbrev pub volume_answer : ℕ → Kind → ℕ → ℕ → ℕ → List ℕ → ℕ → Result Tally Refusal → Type 0
volume_answer fp kind w h d s places = volume_answer_in Ordinary fp kind w h d s places

-- the result buffer after the call: "nothing is written" on a refusal
unfoldable pub volume_out_in : Reading → ℕ → Kind → ℕ → ℕ → ℕ → List ℕ → List ℕ → List ℕ
volume_out_in reading fp kind w h d s old =
    pick (eqb (volume_refusal fp w h d (length s) (length old)) 0) (volume_numbers_in reading fp kind w h d s) old

abbrev pub volume_out : ℕ → Kind → ℕ → ℕ → ℕ → List ℕ → List ℕ → List ℕ
volume_out fp kind w h d s old = volume_out_in Ordinary fp kind w h d s old

-- what a call tells, in 01's numbers: on a refusal "all other numbers told are 0"
unfoldable pub volume_told_in : Reading → ℕ → Kind → ℕ → ℕ → ℕ → List ℕ → ℕ → Told
volume_told_in reading fp kind w h d s places =
    let e = volume_refusal fp w h d (length s) places in
    pick (eqb e 0) (told_decoded (volume_tally_in reading fp kind w h d s)) (record { refusal = e; count = 0; first = 0; fault = 0 })

abbrev pub volume_told : ℕ → Kind → ℕ → ℕ → ℕ → List ℕ → ℕ → Told
volume_told fp kind w h d s places = volume_told_in Ordinary fp kind w h d s places

-- ---- sizes, for a caller who makes the buffers

-- how many blocks a volume has, 0 where a call refuses it by 1 or 3
unfoldable pub volume_blocks : ℕ → ℕ → ℕ → ℕ → ℕ
volume_blocks fp w h d = pick (either (ltb 23 fp) (bad_sizes w h d)) 0 (blocks_of fp w h d)

-- how many numbers its result buffer takes, 0 where a call refuses it by 3
unfoldable pub volume_places : ℕ → ℕ → ℕ → ℕ
volume_places w h d = pick (bad_sizes w h d) 0 (4 * texels_in w h d)
