-- A picture, flat or a volume, by rows: a list of rows of texels, and its blocks a list of rows of blocks. Each row of texels lies in one row of
-- blocks. What a result buffer holds once a run, a part of a block or a block is copied into it.
-- Assumes nothing.
use Rattle.std.specs.Prelude.{ℕ, ◌+◌, ◌*◌, ◌/◌, ◌≤◌, ◌<◌, ◌≡◌, List, get_or}
use Rattle.picture_regions.specs.Picture.{place}

pub record Picture : Type 0 where
  -- texels in a row, and rows of them
  pub width : ℕ
  pub rows : ℕ
  -- texels across a block
  pub columns : ℕ
  -- blocks in a row of blocks, and rows of them
  pub across : ℕ
  pub down : ℕ
  -- the row of blocks that shows a row of texels
  pub row : ℕ → ℕ

-- the block that shows column x of row q
unfoldable pub block_in : Picture → ℕ → ℕ → ℕ
block_in p x q = p.row q * p.across + x / p.columns

-- new is old, but with n numbers of src, from `from` on, shown at `at`
pub record Pasted (show : ℕ → ℕ) (src : List ℕ) (from n : ℕ) (old : List ℕ) (at : ℕ) (new : List ℕ) : Type 0 where
  pub inside : (k : ℕ) → k < n → get_or new (at + k) 0 ≡ show (get_or src (from + k) 0)
  pub outside : (k : ℕ) → (at ≤ k → k < at + n → ⊥) → get_or new k 0 ≡ get_or old k 0

-- n rows of cols texels from column x0 on are copied: row `from i` of buf, whose rows have bw texels, to row `to i`; the rest is as it was
pub record RowsCopied (show : ℕ → ℕ) (w x0 cols bw : ℕ) (to from : ℕ → ℕ) (n : ℕ) (buf old new : List ℕ) : Type 0 where
  pub inside : (dx i c : ℕ) → dx < cols → i < n → c < 4
      → get_or new (place w (x0 + dx) (to i) c) 0 ≡ show (get_or buf (place bw dx (from i) c) 0)
  pub outside : (x q c : ℕ) → x < w → c < 4 → (x0 ≤ x → x < x0 + cols → (i : ℕ) → i < n → q ≡ to i → ⊥)
      → get_or new (place w x q c) 0 ≡ get_or old (place w x q c) 0

-- how many of n places from `at` on are within a side
pub record Cropped (side at n r : ℕ) : Type 0 where
  pub in_block : r ≤ n
  pub in_side : at + r ≤ side
  pub all : (d : ℕ) → d < n → at + d < side → d < r

-- new is old, but block b, as far as it is within the picture, shows f
pub record Tile (p : Picture) (b : ℕ) (f : ℕ → ℕ → ℕ → ℕ) (old new : List ℕ) : Type 0 where
  pub inside : (x q c : ℕ) → x < p.width → q < p.rows → c < 4 → block_in p x q ≡ b → get_or new (place p.width x q c) 0 ≡ f x q c
  pub outside : (x q c : ℕ) → x < p.width → q < p.rows → c < 4 → (block_in p x q ≡ b → ⊥)
      → get_or new (place p.width x q c) 0 ≡ get_or old (place p.width x q c) 0
