-- 02, h: "Some volume settings have two block modes (6x2x2 and its turns, one plane, the six low ranges): the reader takes both, the writer the
-- smaller mode number." What the bits that are found for a grid (`block_mode_of`) are, said of all 2,048 modes of volumes and of flat blocks.
-- Theorem: proofs/Modes.antt, `least`.
-- Assumes nothing.
use Rattle.std.specs.Prelude.{◌≡◌, Bool, true, false, ℕ, ◌≤◌, ◌<◌, None, Some}
use Rattle.laws.specs.Choice.{both}
use Rattle.block_mode.specs.declared.WeightGrid.{WeightGrid}
use Rattle.block_mode.specs.declared.BlockMode.TheVariants.{Grid}
use Rattle.volume_mode.specs.Back3D.{is_double}
use Rattle.volume_mode.specs.Either.{block_mode_in, is_deep, block_mode_of}

-- a volume's grid has two modes, which the reader takes both: the bits that are found for it, and one larger
pub record TwoModes (g : WeightGrid) : Type 0 where
  pub smaller : ℕ
  pub larger : ℕ
  pub found : block_mode_of g ≡ Some smaller
  pub order : smaller < larger
  pub within : larger < 2048
  pub smaller_is : block_mode_in true smaller ≡ Grid g
  pub larger_is : block_mode_in true larger ≡ Grid g
  -- and no third
  pub no_other : (m : ℕ) → m < 2048 → block_mode_in true m ≡ Grid g → (m ≡ smaller → ⊥) → m ≡ larger

pub record LeastMode : Type 0 where
  -- a volume's mode is a grid of two layers or more, a flat block's one of one layer
  pub mode_deep : (volume : Bool) (m : ℕ) → m < 2048 → (g : WeightGrid) → block_mode_in volume m ≡ Grid g → is_deep g ≡ volume
  -- bits that are found for a grid are a mode that is this grid,
  pub found_mode : (g : WeightGrid) (m : ℕ) → block_mode_of g ≡ Some m → (m < 2048) × (block_mode_in (is_deep g) m ≡ Grid g)
  -- and the smallest of all that are
  pub least_mode : (g : WeightGrid) (n : ℕ) → block_mode_of g ≡ Some n → (m : ℕ) → m < 2048 → block_mode_in (is_deep g) m ≡ Grid g → n ≤ m
  -- where the grid is none of those with two, there is no other
  pub only_mode : (volume : Bool) (m : ℕ) → m < 2048 → (g : WeightGrid) → block_mode_in volume m ≡ Grid g → both volume (is_double g) ≡ false → block_mode_of g ≡ Some m
  -- where it is one of those, there are two
  pub two_modes : (g : WeightGrid) → is_double g ≡ true → TwoModes g
  -- where none are found, no mode is this grid,
  pub no_mode : (volume : Bool) (g : WeightGrid) → block_mode_of g ≡ None → (m : ℕ) → m < 2048 → block_mode_in volume m ≡ Grid g → ⊥
  -- and where no mode is this grid, none are found
  pub not_found : (g : WeightGrid) → ((m : ℕ) → m < 2048 → block_mode_in (is_deep g) m ≡ Grid g → ⊥) → block_mode_of g ≡ None
