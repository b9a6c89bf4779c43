-- Demand 2's last sentence: "a texel depends on its own block's sixteen bytes, the footprint, the kind and its place, on nothing else".
-- 02, b: so in each reading.
-- Theorem: proofs/Independence.antt, `own_block` (`OwnBlockEverywhere`).
-- Assumes nothing.
use Rattle.std.specs.Prelude.{◌≡◌, ℕ, ◌+◌, ◌*◌, ◌%◌, ◌<◌, List, length, get_or}
use Rattle.footprint.specs.Footprint.{width_of, height_of, texels_of}
use Rattle.interpolation.specs.declared.Kind.{Kind}
use Rattle.block_reading.specs.declared.Reading.{Reading}
use Rattle.one_block.specs.Calls.{block_out_in}
use Rattle.image_size.specs.Sides.{blocks_of}
use Rattle.picture_regions.specs.Picture.{place}
use Rattle.image_layout.specs.Geometry.{block_index}
use Rattle.image_layout.specs.Numbers.{block_bytes}
use Rattle.image_layout.specs.Call.{image_refusal, image_out_in}

-- channel c of the texel in column x and row y of an image that a call takes
pub record OwnBlock (reading : Reading) (fp : ℕ) (kind : Kind) (w h x y c : ℕ) : Type 0 where
  -- the texel's block is one of the image's
  pub index_in : fp < 14 → block_index fp w x y < blocks_of fp w h
  -- what the call leaves there is what the one-block call leaves, for that block's bytes, at the texel's place in the block
  pub image_texel_lem : (s old block : List ℕ) → image_refusal fp w h (length s) (length old) ≡ 0 → length block ≡ 4 * texels_of fp
      → get_or (image_out_in reading fp kind w h s old) (place w x y c) 0
      ≡ get_or (block_out_in reading kind fp (block_bytes s (block_index fp w x y)) block) (place (width_of fp) (x % width_of fp) (y % height_of fp) c) 0
  -- two images that agree on these sixteen bytes agree on the texel, whatever all other blocks hold
  pub same_texel : (s t old new : List ℕ) → image_refusal fp w h (length s) (length old) ≡ 0 → image_refusal fp w h (length t) (length new) ≡ 0
      → ((k : ℕ) → k < 16 → get_or s (16 * block_index fp w x y + k) 0 ≡ get_or t (16 * block_index fp w x y + k) 0)
      → get_or (image_out_in reading fp kind w h s old) (place w x y c) 0 ≡ get_or (image_out_in reading fp kind w h t new) (place w x y c) 0

-- at every place of every image
abbrev pub OwnBlockEverywhere : Type 0
OwnBlockEverywhere = (reading : Reading) (fp : ℕ) (kind : Kind) (w h x y c : ℕ) → x < w → y < h → c < 4 → OwnBlock reading fp kind w h x y c
