-- 02, h: "texels and blocks with x fastest, then y, then z". A volume is a list of rows, those of its first layer first, and so are its blocks:
-- each row of texels lies in one row of blocks.
-- Assumes nothing.
use Rattle.std.specs.Prelude.{ℕ, ◌+◌, ◌*◌, ◌/◌}

-- the row of texels that is row y of layer z, in layers of h rows
abbrev pub layer_row : ℕ → ℕ → ℕ → ℕ
layer_row h y z = z * h + y

-- the block that shows the texel at x, y, z, with nx blocks in a row and ny rows of blocks in a layer
unfoldable pub block_index_in : ℕ → ℕ → ℕ → ℕ → ℕ → ℕ → ℕ → ℕ → ℕ
block_index_in nx ny bw bh bd x y z = (z / bd * ny + y / bh) * nx + x / bw
