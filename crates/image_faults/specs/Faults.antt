-- Which blocks of an image (01: picture) have a fault: 01, "A picture call answers the count of blocks with a fault, and the raster index and
-- fault of the first one", told here of every block, with the numbers and the order of 01, "Numbers told to the caller".
-- 02, b: in the ordinary reading or the strict one.
-- Assumes nothing.
use Rattle.std.specs.Prelude.{ℕ, ◌*◌, not, List, [], ◌∷◌, eqb, ltb, length, Result}
use Rattle.laws.specs.Choice.{pick, either}
use Rattle.laws.specs.Table.{tab}
use Rattle.laws.specs.Reasons.{when, first_of}
use Rattle.interpolation.specs.declared.Kind.{Kind}
use Rattle.kind_number.specs.Kinds.{kind_of}
use Rattle.image_size.specs.Sides.{bad_side, blocks_of}
use Rattle.block_reading.specs.declared.Reading.{Reading}
use Rattle.reason.specs.declared.Refusal.{Refusal}
use Rattle.reason.specs.Answers.{Answers}
use Rattle.image_layout.specs.declared.Tally.{Tally}
use Rattle.image_layout.specs.Numbers.{fault_at_in}
use Rattle.image_layout.specs.Call.{image_tally_in, Told, told_decoded}

-- "Refusals, tested in this order", with the kind's number k (02, i: 2 for "kinds above 2"), so many block bytes, and places for faults, one
-- for each block; 0 for none
unfoldable pub faults_refusal : ℕ → ℕ → ℕ → ℕ → ℕ → ℕ → ℕ
faults_refusal fp k w h bytes places =
    first_of
    (when (ltb 13 fp) 1
    ∷ when (ltb 2 k) 2
    ∷ when (either (bad_side w) (bad_side h)) 3
    ∷ when (not (eqb bytes (16 * blocks_of fp w h))) 4
    ∷ when (not (eqb places (blocks_of fp w h))) 5
    ∷ [])

-- the fault of each block in raster order, 0 for none
unfoldable pub fault_list : Reading → ℕ → Kind → ℕ → ℕ → List ℕ → List ℕ
fault_list reading fp kind w h s = tab (fault_at_in reading fp kind s) (blocks_of fp w h)

-- what is answered: the refusal, or the tally that the image call answers
abbrev pub faults_answer : Reading → ℕ → ℕ → ℕ → ℕ → List ℕ → ℕ → Result Tally Refusal → Type 0
faults_answer reading fp k w h s places = Answers (faults_refusal fp k w h (length s) places) (image_tally_in reading fp (kind_of k) w h s)

-- 01's numbers of it: on a refusal "all other numbers told are 0"
unfoldable pub faults_told : Reading → ℕ → ℕ → ℕ → ℕ → List ℕ → ℕ → Told
faults_told reading fp k w h s places =
    let e = faults_refusal fp k w h (length s) places in
    pick (eqb e 0) (told_decoded (image_tally_in reading fp (kind_of k) w h s)) (record { refusal = e; count = 0; first = 0; fault = 0 })

-- the list after the call: "nothing is written" on a refusal
unfoldable pub faults_out : Reading → ℕ → ℕ → ℕ → ℕ → List ℕ → List ℕ → List ℕ
faults_out reading fp k w h s old = pick (eqb (faults_refusal fp k w h (length s) (length old)) 0) (fault_list reading fp (kind_of k) w h s) old
