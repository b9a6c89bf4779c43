-- What the bits of a block without fault come to: a void extent, or the settings of a coded block.
-- Assumes nothing.
use Rattle.std.specs.Prelude.{ℕ}
use Rattle.laws.specs.Choice.{pick}
use Rattle.block_header.specs.declared.BlockHeader.{BlockHeader}
use Rattle.block_header.specs.Counts.{endpoint_count, endpoint_range_of}
use Rattle.block_fault.specs.declared.Contents.{Contents}
use Rattle.block_fault.specs.declared.Contents.TheVariants.{VoidExtent, Coded}
use Rattle.block_fault.specs.declared.Settings.{Settings}
use Rattle.block_fault.specs.Bits.{mode_at, is_void, header_at}

-- a header with the count of its endpoint numbers and their range
abbrev pub with_counts : BlockHeader → Settings
with_counts h = record { header = h; numbers = endpoint_count h; range = endpoint_range_of h }

-- the settings of a coded block
abbrev pub settings_of : ℕ → ℕ → Settings
settings_of fp B = with_counts (header_at fp B)

-- the block B at a footprint, where it has no fault
unfoldable pub contents_of : ℕ → ℕ → Contents
contents_of fp B = pick (is_void (mode_at fp B)) VoidExtent (Coded (settings_of fp B))
