-- A column of texels on a grid: made once for all rows of a block.
-- Assumes nothing.
use Rattle.std.specs.Prelude.{ℕ, ◌+◌, ◌/◌, ◌%◌}
use Rattle.weight_grid.specs.Place.{grid_place}
use Rattle.weight_grid.specs.inner.Points.{neighbour_step}
use Rattle.weight_grid.specs.declared.Column.{Column}

-- the points beside column x of a block, and its fraction
unfoldable pub grid_column : ℕ → ℕ → ℕ → Column
grid_column scale points x = record {
  at = grid_place scale x points / 16;
  next = grid_place scale x points / 16 + neighbour_step (grid_place scale x points) points 1;
  part = grid_place scale x points % 16;
}

-- past the block's width
abbrev pub no_column : Column
no_column = record { at = 0; next = 0; part = 0 }
