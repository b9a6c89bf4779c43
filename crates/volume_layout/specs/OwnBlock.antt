-- Demand 2's last sentence, of volumes: "a texel depends on its own block's sixteen bytes, the footprint, the kind and its place, on nothing else".
-- Theorem: proofs/Independence.antt, `own_block` (`OwnBlockEverywhere`).
-- Assumes nothing.
use Rattle.std.specs.Prelude.{◌≡◌, ℕ, ◌+◌, ◌*◌, ◌%◌, ◌<◌, List, length, get_or}
use Rattle.footprint.specs.Footprint.{width_of, height_of, depth_of, texels_of}
use Rattle.interpolation.specs.declared.Kind.{Kind}
use Rattle.block_reading.specs.declared.Reading.{Reading}
use Rattle.one_block.specs.Calls.{block_out_in}
use Rattle.picture_regions.specs.Picture.{place}
use Rattle.image_layout.specs.Numbers.{block_bytes}
use Rattle.volume_layout.specs.Rows.{layer_row}
use Rattle.volume_layout.specs.Numbers.{block_index}
use Rattle.volume_layout.specs.Call.{blocks_of, volume_refusal, volume_out_in}

-- channel c of the texel at x, y, z of a volume that a call takes
pub record OwnBlock (reading : Reading) (fp : ℕ) (kind : Kind) (w h d x y z c : ℕ) : Type 0 where
  -- the texel's block is one of the volume's
  pub index_in : fp < 24 → block_index fp w h x y z < blocks_of fp w h d
  -- what the call leaves there is what the one-block call leaves, for that block's bytes, at the texel's place in the block
  pub volume_texel_lem : (s old block : List ℕ) → volume_refusal fp w h d (length s) (length old) ≡ 0 → length block ≡ 4 * texels_of fp
      → get_or (volume_out_in reading fp kind w h d s old) (place w x (layer_row h y z) c) 0
      ≡ get_or (block_out_in reading kind fp (block_bytes s (block_index fp w h x y z)) block)
      (place (width_of fp) (x % width_of fp) (layer_row (height_of fp) (y % height_of fp) (z % depth_of fp)) c) 0
  -- two volumes that agree on these sixteen bytes agree on the texel, whatever all other blocks hold
  pub same_texel : (s t old new : List ℕ) → volume_refusal fp w h d (length s) (length old) ≡ 0 → volume_refusal fp w h d (length t) (length new) ≡ 0
      → ((k : ℕ) → k < 16 → get_or s (16 * block_index fp w h x y z + k) 0 ≡ get_or t (16 * block_index fp w h x y z + k) 0)
      → get_or (volume_out_in reading fp kind w h d s old) (place w x (layer_row h y z) c) 0 ≡ get_or (volume_out_in reading fp kind w h d t new) (place w x (layer_row h y z) c) 0

-- at every place of every volume
abbrev pub OwnBlockEverywhere : Type 0
OwnBlockEverywhere =
    (reading : Reading) (fp : ℕ) (kind : Kind) (w h d x y z c : ℕ) → x < w → y < h → z < d → c < 4 → OwnBlock reading fp kind w h d x y z c
