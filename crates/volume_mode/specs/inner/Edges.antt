-- The limits of a volume's weight grid, as facts.
-- Assumes nothing.
use Rattle.std.specs.Prelude.{◌≤◌}
use Rattle.block_mode.specs.declared.WeightGrid.{WeightGrid}

pub record Edges (g : WeightGrid) : Type 0 where
  pub width_low : 2 ≤ g.width
  pub width_most : g.width ≤ 6
  pub height_low : 2 ≤ g.height
  pub height_most : g.height ≤ 6
  pub depth_low : 2 ≤ g.depth
  pub depth_most : g.depth ≤ 6
  pub range_most : g.range ≤ 11
  pub planes_low : 1 ≤ g.planes
  pub planes_most : g.planes ≤ 2
