-- 01: "no block mode has this grid, range and planes" (refusal 32), and that a grid has one block mode at most: what the bits that are found
-- for a grid (`flat_mode_of`) are, said of all 2,048 modes. Theorem: proofs/Modes.antt, `one_mode`.
-- Assumes nothing.
use Rattle.std.specs.Prelude.{◌≡◌, ℕ, ◌<◌, None, Some}
use Rattle.block_mode.specs.declared.WeightGrid.{WeightGrid}
use Rattle.block_mode.specs.declared.BlockMode.TheVariants.{Grid}
use Rattle.block_mode.specs.Mode2D.{block_mode}
use Rattle.block_mode.specs.Back2D.{Limits, flat_mode_of}

pub record OneMode : Type 0 where
  -- a mode that is a grid is within the limits
  pub mode_limits : (m : ℕ) → m < 2048 → (g : WeightGrid) → block_mode m ≡ Grid g → Limits g
  -- and its bits are found again
  pub mode_found : (m : ℕ) → m < 2048 → (g : WeightGrid) → block_mode m ≡ Grid g → flat_mode_of g ≡ Some m
  -- bits that are found for a grid are a mode that is this grid
  pub found_mode : (g : WeightGrid) (m : ℕ) → flat_mode_of g ≡ Some m → (m < 2048) × (block_mode m ≡ Grid g)
  -- where none are found, no mode is this grid,
  pub no_mode : (g : WeightGrid) → flat_mode_of g ≡ None → (m : ℕ) → m < 2048 → block_mode m ≡ Grid g → ⊥
  -- and where no mode is this grid, none are found
  pub not_found : (g : WeightGrid) → ((m : ℕ) → m < 2048 → block_mode m ≡ Grid g → ⊥) → flat_mode_of g ≡ None
  -- the mode of a grid is unique
  pub one_mode : (m n : ℕ) (g : WeightGrid) → m < 2048 → n < 2048 → block_mode m ≡ Grid g → block_mode n ≡ Grid g → m ≡ n
