-- Pictures of BC7 blocks in raster order: what the picture call refuses, answers and leaves in the result buffer. Beyond 02, l, which asks for
-- one block; sides, order, refusals 3, 4 and 5 and the tally are those of ASTC's picture call at 4x4 (footprint 0).
-- Assumes nothing.
use Rattle.std.specs.Prelude.{ℕ, ◌+◌, ◌*◌, ◌/◌, ◌%◌, ◌≡◌, not, List, [], ◌∷◌, eqb, length, Result}
use Rattle.laws.specs.Choice.{pick, either}
use Rattle.laws.specs.Reasons.{when, first_of}
use Rattle.laws.specs.Table.{tab}
use Rattle.image_size.specs.Sides.{bad_side, blocks_of}
use Rattle.reason.specs.declared.Refusal.{Refusal}
use Rattle.reason.specs.Answers.{Answers}
use Rattle.image_layout.specs.declared.Tally.{Tally}
use Rattle.image_layout.specs.Geometry.{block_index}
use Rattle.image_layout.specs.Numbers.{block_at}
use Rattle.image_layout.specs.Faulty.{tally_of}
use Rattle.image_layout.specs.Call.{Told, told_decoded, image_refusal}
use Rattle.bc7_block.specs.Reading.{fault_of}
use Rattle.bc7_block.specs.Picture.{block_texel}

-- the fault of block b, 71 or 0
unfoldable pub bc7_fault_at : List ℕ → ℕ → ℕ
bc7_fault_at s b = fault_of (block_at s b)

-- channel c of the texel in column x of row y of a picture w texels wide: what that texel's block shows at its place in the block
unfoldable pub bc7_number_at : ℕ → List ℕ → ℕ → ℕ → ℕ → ℕ
bc7_number_at w s x y c = block_texel (block_at s (block_index 0 w x y)) (y % 4 * 4 + x % 4) c

-- all bytes of a picture, rows first; texels of an edge block beyond the picture are dropped
unfoldable pub bc7_numbers : ℕ → ℕ → List ℕ → List ℕ
bc7_numbers w h s = tab (λ n. bc7_number_at w s (n / 4 % w) (n / 4 / w) (n % 4)) (4 * (h * w))

-- the refusals of ASTC's call at footprint 0
abbrev pub bc7_refusal : ℕ → ℕ → ℕ → ℕ → ℕ
bc7_refusal w h bytes places = image_refusal 0 w h bytes places

-- which are 3, 4 and 5 (theorem: proofs/Calls.antt, `three_four_five`)
abbrev pub ThreeFourFive : ℕ → ℕ → ℕ → ℕ → Type 0
ThreeFourFive w h bytes places =
    bc7_refusal w h bytes places
    ≡ first_of
    (when (either (bad_side w) (bad_side h)) 3
    ∷ when (not (eqb bytes (16 * blocks_of 0 w h))) 4
    ∷ when (not (eqb places (4 * (h * w)))) 5
    ∷ [])

-- the faults of a picture's blocks
unfoldable pub bc7_tally : ℕ → ℕ → List ℕ → Tally
bc7_tally w h s = tally_of (bc7_fault_at s) (blocks_of 0 w h)

-- what is answered, for every input: the refusal, or the faults of the blocks
abbrev pub bc7_answer : ℕ → ℕ → List ℕ → ℕ → Result Tally Refusal → Type 0
bc7_answer w h s places = Answers (bc7_refusal w h (length s) places) (bc7_tally w h s)

-- the numbers told
unfoldable pub bc7_told : ℕ → ℕ → List ℕ → ℕ → Told
bc7_told w h s places =
    let e = bc7_refusal w h (length s) places in
    pick (eqb e 0) (told_decoded (bc7_tally w h s)) (record { refusal = e; count = 0; first = 0; fault = 0 })

-- the result buffer after the call: "nothing is written" on a refusal
unfoldable pub bc7_out : ℕ → ℕ → List ℕ → List ℕ → List ℕ
bc7_out w h s old = pick (eqb (bc7_refusal w h (length s) (length old)) 0) (bc7_numbers w h s) old
