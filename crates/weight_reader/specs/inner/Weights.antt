-- The weights of a block as points of its grid, while they are read.
-- Assumes nothing.
use Rattle.std.specs.Prelude.{ℕ, ◌+◌, ◌*◌, List, get_or}
use Rattle.laws.specs.Table.{padded}
use Rattle.encoding.specs.declared.Encoding.{Encoding}
use Rattle.encoding.specs.declared.LevelPair.{LevelPair}
use Rattle.encoding.specs.inner.Levels.{first_level, level_pair}
use Rattle.quantization.specs.Ranges.{encoding_at, bits_at}
use Rattle.quantization.specs.Unquantise.{unquant_weight}
use Rattle.integer_sequence.specs.Reading.{number}

abbrev pub no_levels : LevelPair
no_levels = level_pair 0 0

-- the point of one plane with this level
abbrev pub one_plane : ℕ → LevelPair
one_plane l = level_pair l 0

-- the point of the stored weight v by a table of levels
unfoldable pub point_by : List ℕ → ℕ → LevelPair
point_by table v = one_plane (get_or table v 0)

-- those of the first n numbers of the sequence s
unfoldable pub by_table : List ℕ → Encoding → ℕ → ℕ → ℕ → List LevelPair
by_table table e b s n = padded 64 n (λ i. point_by table (number e b s i)) no_levels

-- those of the weights of a range
unfoldable pub weights_of : ℕ → ℕ → ℕ → List LevelPair
weights_of range s n = padded 64 n (λ i. one_plane (unquant_weight range (number (encoding_at range) (bits_at range) s i))) no_levels

-- so many points of two planes, whose levels alternate
unfoldable pub paired_of : List LevelPair → ℕ → List LevelPair
paired_of weights count = padded 64 count (λ k. level_pair (first_level (get_or weights (2 * k) no_levels)) (first_level (get_or weights (2 * k + 1) no_levels))) no_levels
