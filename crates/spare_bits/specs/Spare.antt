-- 02, g: "Reading a sheet passes on the spare bits between endpoints and weights as a count and whether any is set. The count is 128 less the
-- bits of all named fields, so it is fixed by the sheet; 0 and clear for solid blocks, faults and refusals."
-- Assumes nothing.
use Rattle.std.specs.Prelude.{ℕ, ◌+◌, ◌-◌, Bool, not, false, List, [], ◌∷◌, eqb}
use Rattle.laws.specs.Choice.{pick}
use Rattle.bits.specs.Field.{field}
use Rattle.quantization.specs.Ranges.{range_bits}
use Rattle.block_header.specs.declared.BlockHeader.{BlockHeader}
use Rattle.block_header.specs.Counts.{weight_bits, component_bits, partition_index_bits, selector_bits, extra_bits, endpoint_count, endpoint_range_of}
use Rattle.symbolic_block.specs.declared.SymbolicBlock.{SymbolicBlock}
use Rattle.symbolic_block.specs.Fields.{header_of}
use Rattle.symbolic_block.specs.Writing.{endpoints_end}
use Rattle.spare_bits.specs.declared.Spare.{Spare}

-- "the bits of all named fields" of a mode sheet: the mode, the partitions less one, the partition index, the selector, four mode bits, the
-- endpoint numbers, the plane channel, the extra mode bits and the weights
unfoldable pub named_bits : BlockHeader → ℕ
unfolding partition_index_bits selector_bits range_bits endpoint_range_of endpoint_count component_bits extra_bits weight_bits
named_bits h =
    11 + 2
    + partition_index_bits h.partitions + selector_bits h.partitions + 4
    + range_bits (endpoint_range_of h) (endpoint_count h)
    + component_bits h.grid.planes + extra_bits h.partitions h.selector
    + weight_bits h.grid

-- "128 less the bits of all named fields"
unfoldable pub spare_bits : BlockHeader → ℕ
unfolding named_bits
spare_bits h = 128 - named_bits h

-- some of the w bits of B from bit p on is set
unfoldable pub some_set : ℕ → ℕ → ℕ → Bool
unfolding field
some_set B p w = not (eqb (field B p w) 0)

-- the spare bits of a block with these settings: they begin where the endpoint numbers end
abbrev pub spare_in : ℕ → BlockHeader → Spare
spare_in B h = record { count = spare_bits h; set = some_set B (endpoints_end h) (spare_bits h) }

-- "0 and clear"
abbrev pub no_spare : Spare
no_spare = record { count = 0; set = false }

-- the count by the sheet, and the spare bits of a block that reads as this sheet: none of a solid one
abbrev pub spare_count : SymbolicBlock → ℕ
spare_count s = pick (eqb s.mark 1) 0 (spare_bits (header_of s))

abbrev pub spare_of : ℕ → SymbolicBlock → Spare
spare_of B s = pick (eqb s.mark 1) no_spare (spare_in B (header_of s))

-- the spare bits as numbers: how many there are, then 1 where one is set, else 0
abbrev pub spare_numbers : Spare → List ℕ
spare_numbers s = s.count ∷ pick s.set 1 0 ∷ []
