-- 02, a: what the calls for whole.astc files answer and write, with the tally of the image calls.
-- Assumes nothing.
use Rattle.std.specs.Prelude.{ℕ, List}
use Rattle.interpolation.specs.declared.Kind.{Kind}
use Rattle.astc_header.specs.Header.{header_refusal}
use Rattle.astc_file.specs.File.{file_told, file_out}
use Rattle.image_numbers.specs.Calls.{number_with, out_with, tally_with}

abbrev pub file_number : Kind → List ℕ → ℕ → ℕ → ℕ
file_number kind s places n = number_with (file_told kind s places) (header_refusal s) n

abbrev pub file_shown : Kind → List ℕ → List ℕ → ℕ → List ℕ
file_shown kind s old n = out_with n (file_out kind s old) old

abbrev pub file_tally : Kind → List ℕ → ℕ → List ℕ → List ℕ
file_tally kind s places old = tally_with (file_told kind s places) old
