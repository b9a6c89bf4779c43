-- Beyond 02, b: what the calls for C that rewrite the blocks of an image answer and write, in a tally of three numbers that the caller lends.
-- Assumes nothing.
use Rattle.std.specs.Prelude.{ℕ, List, length}
use Rattle.image_numbers.specs.Calls.{number_with, out_with, tally_with}
use Rattle.canonical_image.specs.Frames.{canonical_refusal, canonical_told, canonical_out}

abbrev pub canonical_number : ℕ → ℕ → ℕ → List ℕ → ℕ → ℕ → ℕ
canonical_number fp w h s places n = number_with (canonical_told fp w h s places) (canonical_refusal fp w h (length s) places) n

abbrev pub canonical_shown : ℕ → ℕ → ℕ → List ℕ → List ℕ → ℕ → List ℕ
canonical_shown fp w h s old n = out_with n (canonical_out fp w h s old) old

abbrev pub canonical_tally : ℕ → ℕ → ℕ → List ℕ → ℕ → List ℕ → List ℕ
canonical_tally fp w h s places old = tally_with (canonical_told fp w h s places) old
