-- What the image calls for C answer and write: the numbers told, in a tally of three numbers that the caller lends.
-- Assumes nothing.
use Rattle.std.specs.Prelude.{ℕ, List, [], ◌∷◌, eqb, length}
use Rattle.laws.specs.Choice.{pick}
use Rattle.interpolation.specs.declared.Kind.{Kind}
use Rattle.block_reading.specs.declared.Reading.{Reading}
use Rattle.block_reading.specs.declared.Reading.TheVariants.{Ordinary}
use Rattle.image_layout.specs.declared.Tally.{Tally}
use Rattle.image_layout.specs.Call.{Told, image_refusal, image_out_in, image_told_in}

-- the count of blocks with a fault, and the raster index and fault of the first one
abbrev pub tally_told : Told → Tally
tally_told t = record { count = t.count; first = t.first; fault = t.fault }

abbrev pub tally_numbers : Tally → List ℕ
tally_numbers t = t.count ∷ t.first ∷ t.fault ∷ []

-- the first refusal, else 5: told where the tally lent is not of three numbers
abbrev pub refusal_or5 : ℕ → ℕ
refusal_or5 e = pick (eqb e 0) 5 e

-- ---- a call that tells t and is refused by e before its tally is looked at

-- the number answered with a tally of n numbers: the refusal, 0 for none
abbrev pub number_with : Told → ℕ → ℕ → ℕ
number_with t e n = pick (eqb n 3) t.refusal (refusal_or5 e)

-- the result buffer: what the call leaves, or what it held where the tally is not of three numbers
abbrev pub out_with : ℕ → List ℕ → List ℕ → List ℕ
out_with n new old = pick (eqb n 3) new old

-- the tally after the call: all 0 on a refusal, and what it held where it is not of three numbers
abbrev pub tally_with : Told → List ℕ → List ℕ
tally_with t old = pick (eqb (length old) 3) (tally_numbers (tally_told t)) old

-- ---- images, in a reading (02, b); the names without one are the ordinary reading's

abbrev pub image_number_in : Reading → ℕ → Kind → ℕ → ℕ → List ℕ → ℕ → ℕ → ℕ
image_number_in reading fp kind w h s places n = number_with (image_told_in reading fp kind w h s places) (image_refusal fp w h (length s) places) n

abbrev pub image_shown_in : Reading → ℕ → Kind → ℕ → ℕ → List ℕ → List ℕ → ℕ → List ℕ
image_shown_in reading fp kind w h s old n = out_with n (image_out_in reading fp kind w h s old) old

abbrev pub tally_shown_in : Reading → ℕ → Kind → ℕ → ℕ → List ℕ → ℕ → List ℕ → List ℕ
tally_shown_in reading fp kind w h s places old = tally_with (image_told_in reading fp kind w h s places) old

abbrev pub image_number : ℕ → Kind → ℕ → ℕ → List ℕ → ℕ → ℕ → ℕ
image_number fp kind w h s places n = image_number_in Ordinary fp kind w h s places n

abbrev pub image_shown : ℕ → Kind → ℕ → ℕ → List ℕ → List ℕ → ℕ → List ℕ
image_shown fp kind w h s old n = image_shown_in Ordinary fp kind w h s old n

abbrev pub tally_shown : ℕ → Kind → ℕ → ℕ → List ℕ → ℕ → List ℕ → List ℕ
tally_shown fp kind w h s places old = tally_shown_in Ordinary fp kind w h s places old
