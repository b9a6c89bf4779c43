-- 02, h: what the volume picture calls for C answer and write, with a tally as the image calls have it.
-- Assumes nothing.
use Rattle.std.specs.Prelude.{ℕ, List, length}
use Rattle.interpolation.specs.declared.Kind.{Kind}
use Rattle.block_reading.specs.declared.Reading.{Reading}
use Rattle.block_reading.specs.declared.Reading.TheVariants.{Ordinary}
use Rattle.image_numbers.specs.Calls.{number_with, out_with, tally_with}
use Rattle.volume_layout.specs.Call.{volume_refusal, volume_out_in, volume_told_in}

-- ---- volumes, in a reading (02, b); the names without one are the ordinary reading's

abbrev pub volume_number_in : Reading → ℕ → Kind → ℕ → ℕ → ℕ → List ℕ → ℕ → ℕ → ℕ
volume_number_in reading fp kind w h d s places n = number_with (volume_told_in reading fp kind w h d s places) (volume_refusal fp w h d (length s) places) n

abbrev pub volume_shown_in : Reading → ℕ → Kind → ℕ → ℕ → ℕ → List ℕ → List ℕ → ℕ → List ℕ
volume_shown_in reading fp kind w h d s old n = out_with n (volume_out_in reading fp kind w h d s old) old

abbrev pub tally_shown_in : Reading → ℕ → Kind → ℕ → ℕ → ℕ → List ℕ → ℕ → List ℕ → List ℕ
tally_shown_in reading fp kind w h d s places old = tally_with (volume_told_in reading fp kind w h d s places) old

abbrev pub volume_number : ℕ → Kind → ℕ → ℕ → ℕ → List ℕ → ℕ → ℕ → ℕ
volume_number fp kind w h d s places n = volume_number_in Ordinary fp kind w h d s places n

abbrev pub volume_shown : ℕ → Kind → ℕ → ℕ → ℕ → List ℕ → List ℕ → ℕ → List ℕ
volume_shown fp kind w h d s old n = volume_shown_in Ordinary fp kind w h d s old n

abbrev pub tally_shown : ℕ → Kind → ℕ → ℕ → ℕ → List ℕ → ℕ → List ℕ → List ℕ
tally_shown fp kind w h d s places old = tally_shown_in Ordinary fp kind w h d s places old
