-- What the calls for C answer and write of the faults of an image (01: picture), with the tally of the image calls, in a reading (02, b).
-- Assumes nothing.
use Rattle.std.specs.Prelude.{ℕ, List, length}
use Rattle.block_reading.specs.declared.Reading.{Reading}
use Rattle.image_numbers.specs.Calls.{number_with, out_with, tally_with}
use Rattle.image_faults.specs.Faults.{faults_refusal, faults_told, faults_out}

abbrev pub faults_number : Reading → ℕ → ℕ → ℕ → ℕ → List ℕ → ℕ → ℕ → ℕ
faults_number reading fp k w h s places n = number_with (faults_told reading fp k w h s places) (faults_refusal fp k w h (length s) places) n

abbrev pub faults_shown : Reading → ℕ → ℕ → ℕ → ℕ → List ℕ → List ℕ → ℕ → List ℕ
faults_shown reading fp k w h s old n = out_with n (faults_out reading fp k w h s old) old

abbrev pub faults_tally : Reading → ℕ → ℕ → ℕ → ℕ → List ℕ → ℕ → List ℕ → List ℕ
faults_tally reading fp k w h s places old = tally_with (faults_told reading fp k w h s places) old
