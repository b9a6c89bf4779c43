-- Beyond 02, l: what the call for a picture of BC7 blocks answers and writes, with the tally of the image calls.
-- Assumes nothing.
use Rattle.std.specs.Prelude.{ℕ, List, length}
use Rattle.bc7_image.specs.Image.{bc7_refusal, bc7_told, bc7_out}
use Rattle.image_numbers.specs.Calls.{number_with, out_with, tally_with}

abbrev pub bc7_image_number : ℕ → ℕ → List ℕ → ℕ → ℕ → ℕ
bc7_image_number w h s places n = number_with (bc7_told w h s places) (bc7_refusal w h (length s) places) n

abbrev pub bc7_image_shown : ℕ → ℕ → List ℕ → List ℕ → ℕ → List ℕ
bc7_image_shown w h s old n = out_with n (bc7_out w h s old) old

abbrev pub bc7_tally_shown : ℕ → ℕ → List ℕ → ℕ → List ℕ → List ℕ
bc7_tally_shown w h s places old = tally_with (bc7_told w h s places) old
