-- 02, a: the header of .astc files over lists that a C program lends: three numbers, or sixteen bytes.
-- Assumes nothing.
use Rattle.std.specs.Prelude.{ℕ, List, [], ◌∷◌, eqb, length}
use Rattle.laws.specs.Choice.{pick}
use Rattle.laws.specs.Table.{tab}
use Rattle.image_size.specs.Sides.{size_refusal}
use Rattle.astc_header.specs.Header.{HeaderTold, header_refusal, header_told, header_bytes}

-- the first refusal; after it 5, where the list lent is of n elements and not of m
abbrev pub then_five : ℕ → ℕ → ℕ → ℕ
then_five e n m = pick (eqb e 0) (pick (eqb n m) 0 5) e

-- the numbers of a header: footprint, width, height
abbrev pub header_numbers : HeaderTold → List ℕ
header_numbers t = t.footprint ∷ t.width ∷ t.height ∷ []

-- reading: the number answered, with a list of n numbers
unfoldable pub read_number : List ℕ → ℕ → ℕ
read_number s n = then_five (header_refusal s) n 3

-- the list after the call: what is told, zeros on a refusal; as it was where it is not of three numbers
unfoldable pub read_numbers : List ℕ → List ℕ → List ℕ
read_numbers s old = pick (eqb (length old) 3) (header_numbers (header_told s)) old

-- writing: the number answered, with a list of n bytes
unfoldable pub write_number : ℕ → ℕ → ℕ → ℕ → ℕ
write_number fp w h n = then_five (size_refusal fp w h) n 16

-- "The header writer refuses by 1 and 3, with sixteen zeros."
unfoldable pub written_bytes : ℕ → ℕ → ℕ → List ℕ
written_bytes fp w h = pick (eqb (size_refusal fp w h) 0) (header_bytes fp w h) (tab (λ k. 0) 16)

-- the list after the call: the header, zeros on a refusal; as it was where it is not of sixteen bytes
unfoldable pub write_bytes : ℕ → ℕ → ℕ → List ℕ → List ℕ
write_bytes fp w h old = pick (eqb (length old) 16) (written_bytes fp w h) old
