-- 02, h: the numbers of a volume picture, "texels and blocks with x fastest, then y, then z". In the ordinary reading or the strict one, one text for
-- both.
-- Assumes nothing.
use Rattle.std.specs.Prelude.{ℕ, ◌*◌, ◌/◌, ◌%◌, List}
use Rattle.laws.specs.Table.{tab}
use Rattle.footprint.specs.Footprint.{width_of, height_of, depth_of}
use Rattle.interpolation.specs.declared.Kind.{Kind}
use Rattle.block_reading.specs.declared.Reading.{Reading}
use Rattle.block_reading.specs.Shown.{number_at_in}
use Rattle.image_size.specs.Sides.{blocks_across}
use Rattle.image_layout.specs.Numbers as bytes
use Rattle.volume_layout.specs.Rows.{block_index_in}

-- the block that shows the texel at x, y, z of a volume whose layers have h rows of w texels
unfoldable pub block_index : ℕ → ℕ → ℕ → ℕ → ℕ → ℕ → ℕ
block_index fp w h x y z = block_index_in (blocks_across w (width_of fp)) (blocks_across h (height_of fp)) (width_of fp) (height_of fp) (depth_of fp) x y z

-- how many texels a volume has
unfoldable pub texels_in : ℕ → ℕ → ℕ → ℕ
texels_in w h d = d * h * w

-- channel c of the texel at x, y, z: what that texel's block shows at its place in the block
unfoldable pub volume_number_at_in : Reading → ℕ → Kind → ℕ → ℕ → List ℕ → ℕ → ℕ → ℕ → ℕ → ℕ
volume_number_at_in reading fp kind w h s x y z c =
    number_at_in reading fp kind (bytes.block_at s (block_index fp w h x y z)) (x % width_of fp) (y % height_of fp) (z % depth_of fp) c

-- all numbers of a volume: number n is channel n % 4 of texel n / 4, which stands in column n / 4 % w of row n / 4 / w % h of layer n / 4 / w / h;
-- texels of an edge block beyond the volume are dropped
unfoldable pub volume_numbers_in : Reading → ℕ → Kind → ℕ → ℕ → ℕ → List ℕ → List ℕ
volume_numbers_in reading fp kind w h d s =
    tab (λ n. volume_number_at_in reading fp kind w h s (n / 4 % w) (n / 4 / w % h) (n / 4 / w / h) (n % 4)) (4 * texels_in w h d)
