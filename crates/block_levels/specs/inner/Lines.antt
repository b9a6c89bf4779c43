-- What a partition's pair is lent to the loop over texels as: ten numbers, of kinds 0 and 1 a line, of kind 2 the ends themselves.
-- Assumes nothing.
use Rattle.std.specs.Prelude.{ℕ, List, get_or}
use Rattle.laws.specs.Choice.{pick}
use Rattle.laws.specs.Table.{tab}
use Rattle.encoding.specs.declared.Level.{Level}
use Rattle.color_endpoint.specs.Table.{table_of}
use Rattle.interpolation.specs.declared.Kind.{Kind}
use Rattle.interpolation.specs.declared.Texel.{Texel}
use Rattle.interpolation.specs.Expansion.{no_pair, takes_hdr}
use Rattle.interpolation.specs.inner.Line.{line_of}
use Rattle.half_pair.specs.Pair.{no_half, half_table_of}
use Rattle.half_line.specs.inner.Line.{half_line_of}
use Rattle.block_header.specs.declared.BlockHeader.{BlockHeader}

-- of the pairs of a table, by kind
unfoldable pub lines_by : Kind → List ℕ → ℕ → List Level → List (List ℕ)
lines_by kind modes count levels =
    pick (takes_hdr kind) (tab (λ p. half_line_of (get_or (half_table_of modes count levels) p no_half)) 4) (tab (λ p. line_of (get_or (table_of modes count levels) p no_pair)) 4)

-- of the four partitions of a header
abbrev pub lines_in : Kind → BlockHeader → List Level → List (List ℕ)
lines_in kind h ends = lines_by kind h.modes h.partitions ends

-- four colours as they stand
unfoldable pub colours_of : (ℕ → ℕ) → Texel
colours_of colour = record { r = colour 0; g = colour 1; b = colour 2; a = colour 3 }
