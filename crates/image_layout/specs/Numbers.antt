-- 01, "What is covered": the numbers of an image, "Channels are R, G, B, A, rows first", and the faults of its blocks. 02, b: in the ordinary
-- reading or the strict one, one text for both; the names without a reading are the ordinary one's.
-- Assumes nothing.
use Rattle.std.specs.Prelude.{ℕ, ◌*◌, ◌/◌, ◌%◌, List, take, drop}
use Rattle.laws.specs.Table.{tab}
use Rattle.bits.specs.Block.{number_of}
use Rattle.footprint.specs.Footprint.{width_of, height_of}
use Rattle.interpolation.specs.declared.Kind.{Kind}
use Rattle.interpolation.specs.Expansion.{takes_hdr}
use Rattle.block_reading.specs.declared.Reading.{Reading}
use Rattle.block_reading.specs.declared.Reading.TheVariants.{Ordinary}
use Rattle.block_reading.specs.Faults.{fault_in}
use Rattle.block_reading.specs.Shown.{number_at_in}
use Rattle.image_layout.specs.Geometry.{block_index}

-- the sixteen bytes of block b
unfoldable pub block_bytes : List ℕ → ℕ → List ℕ
block_bytes s b = take 16 (drop (16 * b) s)

-- the same as one number
unfoldable pub block_at : List ℕ → ℕ → ℕ
block_at s b = number_of (block_bytes s b)

-- its fault by the reading's and the kind's list, 0 for none
unfoldable pub fault_at_in : Reading → ℕ → Kind → List ℕ → ℕ → ℕ
fault_at_in reading fp kind s b = fault_in reading (takes_hdr kind) fp (block_at s b)

abbrev pub fault_at : ℕ → Kind → List ℕ → ℕ → ℕ
fault_at fp kind s b = fault_at_in Ordinary fp kind s b

-- channel c of the texel in column x of row y of an image w texels wide: what that texel's block shows at its place in the
-- block, which is one layer thick
unfoldable pub image_number_at_in : Reading → ℕ → Kind → ℕ → List ℕ → ℕ → ℕ → ℕ → ℕ
image_number_at_in reading fp kind w s x y c = number_at_in reading fp kind (block_at s (block_index fp w x y)) (x % width_of fp) (y % height_of fp) 0 c

abbrev pub image_number_at : ℕ → Kind → ℕ → List ℕ → ℕ → ℕ → ℕ → ℕ
image_number_at fp kind w s x y c = image_number_at_in Ordinary fp kind w s x y c

-- all numbers of an image, rows first: number n is channel n % 4 of texel n / 4, which stands in column n / 4 % w of row n / 4 / w;
-- "Texels of an edge block beyond the picture are dropped"
unfoldable pub image_numbers_in : Reading → ℕ → Kind → ℕ → ℕ → List ℕ → List ℕ
image_numbers_in reading fp kind w h s = tab (λ n. image_number_at_in reading fp kind w s (n / 4 % w) (n / 4 / w) (n % 4)) (4 * (h * w))
