-- What the code's parts ask.
-- Assumes nothing.
use Rattle.std.specs.Prelude.{◌≡◌, List, ℕ, ◌*◌, ◌≤◌, ◌<◌, length}

-- sides that are not refused, and a wanted grey for each texel
pub record Lent (w h : ℕ) (wanted : List ℕ) : Type 0 where
  pub w_low : 0 < w
  pub w_most : w ≤ 16384
  pub h_low : 0 < h
  pub h_most : h ≤ 16384
  pub greys : length wanted ≡ h * w
