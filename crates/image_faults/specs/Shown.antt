-- What the list of faults says of the image and of the tally: where it has 0, a texel of the error colour is the block's own texel, not a
-- sign of a fault. Theorems: proofs/Shown.antt, `counted`, `shown`.
-- Assumes nothing.
use Rattle.std.specs.Prelude.{◌≡◌, ℕ, ◌%◌, ◌<◌, List, length, get_or}
use Rattle.footprint.specs.Footprint.{width_of, height_of}
use Rattle.interpolation.specs.declared.Kind.{Kind}
use Rattle.texel.specs.Meaning.{error_texel, shown_channel}
use Rattle.texel.specs.BlockTexel.{sound_texel}
use Rattle.block_reading.specs.declared.Reading.{Reading}
use Rattle.image_size.specs.Sides.{blocks_of}
use Rattle.image_layout.specs.Geometry.{block_index}
use Rattle.image_layout.specs.Numbers.{block_at}
use Rattle.image_layout.specs.Faulty.{tally_of}
use Rattle.image_layout.specs.Call.{image_refusal, image_tally_in, image_out_in}
use Rattle.picture_regions.specs.Picture.{place}
use Rattle.image_faults.specs.Faults.{fault_list}

-- the number that stands in a list of faults for a block
abbrev pub listed : List ℕ → ℕ → ℕ
listed l b = get_or l b 0

-- the count, the first index and the first fault, which the image call answers too, are those of the list
abbrev pub Counted : Reading → ℕ → Kind → ℕ → ℕ → List ℕ → Type 0
Counted reading fp kind w h s = image_tally_in reading fp kind w h s ≡ tally_of (listed (fault_list reading fp kind w h s)) (blocks_of fp w h)

-- channel c of the texel in column x and row y of an image that the image call takes
pub record Shown (reading : Reading) (fp : ℕ) (kind : Kind) (w h : ℕ) (s old : List ℕ) (x y c : ℕ) : Type 0 where
  -- where the list has 0 at the texel's block, the image call shows that block's own texel,
  pub own : listed (fault_list reading fp kind w h s) (block_index fp w x y) ≡ 0
      → get_or (image_out_in reading fp kind w h s old) (place w x y c) 0 ≡ shown_channel kind (sound_texel fp kind (block_at s (block_index fp w x y)) (x % width_of fp) (y % height_of fp) 0) c
  -- elsewhere the kind's error colour
  pub error : (listed (fault_list reading fp kind w h s) (block_index fp w x y) ≡ 0 → ⊥)
      → get_or (image_out_in reading fp kind w h s old) (place w x y c) 0 ≡ shown_channel kind (error_texel kind) c

-- at every place
abbrev pub ShownEverywhere : Reading → ℕ → Kind → ℕ → ℕ → List ℕ → List ℕ → Type 0
ShownEverywhere reading fp kind w h s old = image_refusal fp w h (length s) (length old) ≡ 0 → (x y c : ℕ) → x < w → y < h → c < 4 → Shown reading fp kind w h s old x y c
