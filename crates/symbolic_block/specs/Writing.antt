-- 01, "Bits of a block" and "Packed numbers": the 128 bits that are written for a symbolic block, as one number.
-- Assumes nothing.
use Rattle.std.specs.Prelude.{ℕ, ◌+◌, ◌-◌, ◌*◌, ◌/◌, ◌%◌, ◌^◌, List, [], ◌∷◌, eqb, get_or, take, None, Option, Some}
use Rattle.laws.specs.Choice.{pick}
use Rattle.bits.specs.Field.{stream, reverse}
use Rattle.quantization.specs.Ranges.{encoding_at, bits_at, range_bits}
use Rattle.integer_sequence.specs.Writing.{packed, values}
use Rattle.footprint.specs.Footprint.{is_volume}
use Rattle.volume_mode.specs.Either.{block_mode_of}
use Rattle.void_extent.specs.Writing.{void_cells}
use Rattle.block_header.specs.declared.BlockHeader.{BlockHeader}
use Rattle.block_header.specs.Counts.{weight_count, weight_bits, component_bits, partition_index_bits, selector_bits, extra_bits, endpoint_count, endpoint_range_of}
use Rattle.block_fault.specs.Bits.{endpoints_from}
use Rattle.symbolic_block.specs.declared.SymbolicBlock.{SymbolicBlock}
use Rattle.symbolic_block.specs.Fields.{sheet_grid, header_of, colour_in, extent_in}
use Rattle.bits.specs.Cells.{Cell, cell, laid}

-- the bits of a mode; 0 where there is none
abbrev pub mode_number : Option ℕ → ℕ
mode_number (Some m) = m
mode_number None = 0

-- a mode's class bit: whether its class is the selector's own and not the one before
abbrev pub class_bit : ℕ → ℕ → ℕ
class_bit selector mode = (mode / 4 - (selector - 1)) % 2

-- the mode bits past the selector, as one number. "0: the next four are everyone's mode, no extra bits. 1 to 3: 3P-4 extra bits sit above the six;
-- first one class bit for each of the P partitions", these lie lowest, "then two mode bits for each"
unfoldable pub modes_code : BlockHeader → ℕ
modes_code h =
    pick (eqb h.selector 0) (get_or h.modes 0 0)
    (stream (λ i. 2 * i) (λ i. get_or h.modes i 0 % 4) h.partitions * 2 ^ h.partitions
    + stream (λ i. i) (λ i. class_bit h.selector (get_or h.modes i 0)) h.partitions)

-- "The writer takes the smallest code whose present digits are the wanted ones": `packed`
unfoldable pub endpoint_stream : SymbolicBlock → ℕ
endpoint_stream s =
    let k = endpoint_range_of (header_of s) in
    packed (encoding_at k) (bits_at k) (take (endpoint_count (header_of s)) (values s.endpoints))

unfoldable pub weight_stream : SymbolicBlock → ℕ
weight_stream s = packed (encoding_at s.range) (bits_at s.range) (take (weight_count (sheet_grid s)) (values s.weights))

-- where the endpoint numbers end, and where the plane channel or what lies above it begins
unfoldable pub endpoints_end : BlockHeader → ℕ
endpoints_end h = endpoints_from h.partitions + range_bits (endpoint_range_of h) (endpoint_count h)

unfoldable pub component_from : BlockHeader → ℕ
component_from h = 128 - weight_bits h.grid - extra_bits h.partitions h.selector - component_bits h.grid.planes

-- all bits from bit 0 to bit 127, in order
unfoldable pub mode_cells : SymbolicBlock → List Cell
mode_cells s =
    let h = header_of s in
    let P = s.partitions in
    let E = range_bits (endpoint_range_of h) (endpoint_count h) in
    let C = component_bits s.planes in
    let X = extra_bits P s.selector in
    let W = weight_bits (sheet_grid s) in
    -- "Mode is bits 10..0; partitions less one, bits 12..11."
    cell 0 11 (mode_number (block_mode_of (sheet_grid s)))
    ∷ cell 11 2 (P - 1)
    -- "partition index 22..13", then the selector; with one partition neither has bits
    ∷ cell 13 (partition_index_bits P) s.index
    ∷ cell (13 + partition_index_bits P) (selector_bits P) s.selector
    -- four mode bits
    ∷ cell (13 + partition_index_bits P + selector_bits P) 4 (modes_code h % 2 ^ 4)
    -- "endpoint numbers from bit 17", "from bit 29"
    ∷ cell (endpoints_from P) E (endpoint_stream s)
    -- "leaves spare bits 0"
    ∷ cell (endpoints_end h) (component_from h - endpoints_end h) 0
    -- "below these the 2-bit plane channel if there are two planes"
    ∷ cell (component_from h) C s.component
    -- "Below it lie the extra mode bits"
    ∷ cell (128 - W - X) X (modes_code h / 2 ^ 4)
    -- "The weight stream runs down from bit 127, its bit 0 first."
    ∷ cell (128 - W) W (reverse W (weight_stream s))
    ∷ []

-- the 128 bits of a symbolic block that is acceptable at a footprint, which says how a void extent is laid out
unfoldable pub block_of : ℕ → SymbolicBlock → ℕ
unfolding laid void_cells mode_cells modes_code endpoint_stream weight_stream endpoints_end component_from packed reverse block_mode_of endpoints_from endpoint_range_of weight_bits component_bits partition_index_bits selector_bits extra_bits encoding_at bits_at range_bits
block_of fp s = pick (eqb s.mark 1) (laid (void_cells (is_volume fp) s.hdr (extent_in s) (colour_in s))) (laid (mode_cells s))
