-- 02, l: the sixty-four bytes of a block, the "64 result bytes".
-- Assumes nothing.
use Rattle.std.specs.Prelude.{ℕ, ◌/◌, ◌%◌, List}
use Rattle.laws.specs.Table.{tab}
use Rattle.bc7_block.specs.Picture.{block_texel}

-- "Channels are R, G, B, A, rows first": byte n is channel n % 4 of texel n / 4
unfoldable pub texel_bytes : (ℕ → ℕ → ℕ) → List ℕ
unfolding tab
texel_bytes f = tab (λ n. f (n / 4) (n % 4)) 64

-- of the 128 bits of a block
unfoldable pub shown_bytes : ℕ → List ℕ
unfolding texel_bytes block_texel
shown_bytes B = texel_bytes (block_texel B)
