-- The header in the parts that the code makes.
-- Assumes nothing.
use Rattle.std.specs.Prelude.{ℕ, List, [], ◌∷◌, ◌++◌, get_or}
use Rattle.laws.specs.Reasons.{first_of}
use Rattle.astc_header.specs.Header.{file_reasons, size_bytes}

-- the refusals that speak of the form alone: 41, 42, 43
unfoldable pub form_refusal : List ℕ → ℕ
form_refusal s = first_of (file_reasons s [])

-- sixteen bytes: a start t, a block's sides, and an image's
abbrev pub header_bytes_with : List ℕ → ℕ → ℕ → ℕ → ℕ → List ℕ
header_bytes_with t columns rows w h =
    (get_or t 0 0 ∷ get_or t 1 0 ∷ get_or t 2 0 ∷ get_or t 3 0 ∷ columns ∷ rows ∷ 1 ∷ []) ++ size_bytes w ++ size_bytes h ++ size_bytes 1
