-- 01, "Numbers told to the caller": what an image call refuses, answers and leaves in the result buffer. 02, b: in the ordinary reading or the
-- strict one, one text for both; the names without a reading are the ordinary one's.
-- Assumes nothing.
use Rattle.std.specs.Prelude.{ℕ, ◌*◌, not, List, [], ◌∷◌, eqb, ltb, length, Result, Ok, Err}
use Rattle.laws.specs.Choice.{pick, either}
use Rattle.interpolation.specs.declared.Kind.{Kind}
use Rattle.laws.specs.Reasons.{when, first_of}
use Rattle.reason.specs.declared.Refusal.{Refusal}
use Rattle.reason.specs.Numbers.{refusal_number}
use Rattle.reason.specs.Answers.{Answers}
use Rattle.block_reading.specs.declared.Reading.{Reading}
use Rattle.block_reading.specs.declared.Reading.TheVariants.{Ordinary}
use Rattle.image_size.specs.Sides.{bad_side, blocks_of}
use Rattle.image_layout.specs.declared.Tally.{Tally}
use Rattle.image_layout.specs.Numbers.{fault_at_in, image_numbers_in}
use Rattle.image_layout.specs.Faulty.{tally_of}

-- "Refusals, tested in this order", of an image call with so many block bytes and places for numbers; 0 for none
unfoldable pub image_refusal : ℕ → ℕ → ℕ → ℕ → ℕ → ℕ
image_refusal fp w h bytes places =
    first_of
    (when (ltb 13 fp) 1
    ∷ when (either (bad_side w) (bad_side h)) 3
    ∷ when (not (eqb bytes (16 * blocks_of fp w h))) 4
    ∷ when (not (eqb places (4 * (h * w)))) 5
    ∷ [])

-- the faults of an image's blocks
unfoldable pub image_tally_in : Reading → ℕ → Kind → ℕ → ℕ → List ℕ → Tally
image_tally_in reading fp kind w h s = tally_of (fault_at_in reading fp kind s) (blocks_of fp w h)

abbrev pub image_tally : ℕ → Kind → ℕ → ℕ → List ℕ → Tally
image_tally fp kind w h s = image_tally_in Ordinary fp kind w h s

-- what is answered, for every input: the refusal, or the faults of the blocks
abbrev pub image_answer_in : Reading → ℕ → Kind → ℕ → ℕ → List ℕ → ℕ → Result Tally Refusal → Type 0
image_answer_in reading fp kind w h s places = Answers (image_refusal fp w h (length s) places) (image_tally_in reading fp kind w h s)

abbrev pub image_answer : ℕ → Kind → ℕ → ℕ → List ℕ → ℕ → Result Tally Refusal → Type 0
image_answer fp kind w h s places = image_answer_in Ordinary fp kind w h s places

-- the result buffer after the call: "nothing is written" on a refusal
unfoldable pub image_out_in : Reading → ℕ → Kind → ℕ → ℕ → List ℕ → List ℕ → List ℕ
image_out_in reading fp kind w h s old = pick (eqb (image_refusal fp w h (length s) (length old)) 0) (image_numbers_in reading fp kind w h s) old

abbrev pub image_out : ℕ → Kind → ℕ → ℕ → List ℕ → List ℕ → List ℕ
image_out fp kind w h s old = image_out_in Ordinary fp kind w h s old

-- ---- 01's numbers

-- the numbers told: the refusal (0 for none), the count of blocks with a fault, the first one's raster index and fault
pub record Told : Type 0 where
  pub refusal : ℕ
  pub count : ℕ
  pub first : ℕ
  pub fault : ℕ

-- of an image that is decoded
abbrev pub told_decoded : Tally → Told
told_decoded t = record { refusal = 0; count = t.count; first = t.first; fault = t.fault }

-- 01's numbers for each case of the answer
abbrev pub told_of : Result Tally Refusal → Told
told_of (Err refusal) = record { refusal = refusal_number refusal; count = 0; first = 0; fault = 0 }
told_of (Ok t) = told_decoded t

-- what a call tells: on a refusal "all other numbers told are 0"
unfoldable pub image_told_in : Reading → ℕ → Kind → ℕ → ℕ → List ℕ → ℕ → Told
image_told_in reading fp kind w h s places =
    let e = image_refusal fp w h (length s) places in
    pick (eqb e 0) (told_decoded (image_tally_in reading fp kind w h s)) (record { refusal = e; count = 0; first = 0; fault = 0 })

abbrev pub image_told : ℕ → Kind → ℕ → ℕ → List ℕ → ℕ → Told
image_told fp kind w h s places = image_told_in Ordinary fp kind w h s places
