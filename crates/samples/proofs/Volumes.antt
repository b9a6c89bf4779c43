-- Every sample of volumes holds, by computing.
-- Assumes nothing.
use mathlib.Core.Path.{refl}
use Rattle.endpoint_arithmetic.specs.Pair as endpoint-arithmetic-pair
use Rattle.interpolation.specs.Texel as interpolation-texel
use Rattle.laws.specs.Table as laws-table
use Rattle.integer_sequence.specs.Codes as codes
use Rattle.endpoint_arithmetic.specs.Signed as endpoint-arithmetic-signed
use Rattle.color_endpoint.specs.Modes as color-endpoint-modes
use Rattle.color_endpoint.specs.Table as color-endpoint-table
use Rattle.interpolation.specs.Expansion as interpolation-expansion
use Rattle.quantization.specs.Unquantise as quantization-unquantise
use Rattle.quantization.specs.Ranges as quantization-ranges
use Rattle.block_header.specs.Counts as block-header-counts
use Rattle.block_header.specs.Reasons as block-header-reasons
use Rattle.block_header.specs.inner.Stages as block-header-reasons-inner
use Rattle.block_fault.specs.Bits as block-fault-bits
use Rattle.block_fault.specs.Faults as block-fault-faults
use Rattle.partition.specs.Hash as partition-hash
use Rattle.partition.specs.Select as partition-select
use Rattle.volume_infill.specs.Simplex as weight-grid-simplex
use Rattle.weight_grid.specs.Cell as weight-grid-cell
use Rattle.weight_grid.specs.Place as weight-grid-place
use Rattle.volume_mode.specs.Back3D as volume-mode-back3d
use Rattle.volume_mode.specs.Either as volume-mode-either
use Rattle.volume_mode.specs.Mode3D as volume-mode-mode3d
use Rattle.void_extent.specs.Layout as void-extent-layout
use Rattle.footprint.specs.Footprint as footprint-footprint
use Rattle.texel.specs.BlockTexel as texel-blocktexel
use Rattle.texel.specs.Meaning as texel-meaning
use Rattle.encoding.specs.Encoding as encoding-encoding
use Rattle.integer_sequence.specs.Reading as integer-sequence-reading
use Rattle.bits.specs.Field as bits-field
use Rattle.half_float.specs.Half as halves
use Rattle.samples.specs.Samples.{Hold}
use Rattle.samples.specs.Volumes.{volumes}

pub volumes_hold : Hold volumes
unfolding endpoint-arithmetic-pair.raised_pair endpoint-arithmetic-pair.contracted_pair endpoint-arithmetic-pair.offset_pair interpolation-texel.channel_of interpolation-texel.texel_of laws-table.tab_from laws-table.tab laws-table.padded codes.trits_of codes.quints_of codes.digit endpoint-arithmetic-pair.zero_pair endpoint-arithmetic-pair.luminance_pair endpoint-arithmetic-pair.scaled_pair endpoint-arithmetic-pair.rgb_sum endpoint-arithmetic-pair.blue_of endpoint-arithmetic-pair.direct_pair endpoint-arithmetic-signed.base_of endpoint-arithmetic-signed.offset_of endpoint-arithmetic-signed.bit_transfer endpoint-arithmetic-signed.raised endpoint-arithmetic-signed.contracted endpoint-arithmetic-signed.clamped endpoint-arithmetic-signed.plain_end endpoint-arithmetic-signed.blue_end color-endpoint-modes.mode0 color-endpoint-modes.low_luminance color-endpoint-modes.high_luminance color-endpoint-modes.mode1 color-endpoint-modes.mode4 color-endpoint-modes.mode5 color-endpoint-modes.mode6 color-endpoint-modes.mode8 color-endpoint-modes.mode9 color-endpoint-modes.mode10 color-endpoint-modes.mode12 color-endpoint-modes.mode13 color-endpoint-modes.pair_of color-endpoint-table.number_count color-endpoint-table.start_of color-endpoint-table.numbers_from interpolation-expansion.replicated interpolation-expansion.centred interpolation-expansion.expanded_end interpolation-expansion.expanded_pair interpolation-texel.mix_of interpolation-texel.weight_of quantization-unquantise.endpoint_level quantization-unquantise.weight_level quantization-unquantise.unquant_endpoint quantization-unquantise.unquant_weight quantization-ranges.encoding_at quantization-ranges.bits_at quantization-ranges.most_at quantization-ranges.range_bits quantization-ranges.largest_to quantization-ranges.endpoint_range block-header-counts.weight_count block-header-counts.weight_bits block-header-counts.component_bits block-header-counts.partition_index_bits block-header-counts.selector_bits block-header-counts.extra_bits block-header-counts.endpoint_count block-header-counts.bits_left block-header-counts.endpoint_range_of block-header-reasons.grid_too_large block-header-reasons.too_many_weights block-header-reasons.weight_bits_outside block-header-reasons.four_with_two_planes block-header-reasons.too_many_endpoints block-header-reasons.too_few_endpoint_bits block-header-reasons.some_hdr block-header-reasons-inner.grid_fault block-header-reasons-inner.endpoint_fault block-fault-bits.mode_at block-fault-bits.partitions_at block-fault-bits.index_at block-fault-bits.selector_at block-fault-bits.base_at block-fault-bits.extra_at block-fault-bits.component_at block-fault-bits.mode_of block-fault-bits.header_with block-fault-bits.header_at block-fault-bits.endpoints_from block-fault-bits.endpoint_at block-fault-bits.weight_at block-fault-faults.void_reasons block-fault-faults.mode_reasons block-fault-faults.fault_of partition-hash.xor_down partition-hash.xor_up partition-hash.add_up partition-hash.sub_up partition-hash.hash_of partition-select.doubled partition-select.seed_of partition-select.last_seed_of partition-select.bit_shift partition-select.count_shift partition-select.sh1 partition-select.sh2 partition-select.sh3 partition-select.lane_of partition-select.first_largest partition-select.select_from partition-select.select_at partition-select.partition_of weight-grid-simplex.volume_cell_of weight-grid-simplex.simplex_sum weight-grid-simplex.simplex_of weight-grid-simplex.volume_infill weight-grid-cell.level_in weight-grid-cell.cell_of weight-grid-place.scale_of weight-grid-place.grid_place volume-mode-back3d.in_volume volume-mode-back3d.six_form volume-mode-back3d.edge_form volume-mode-back3d.volume_bits volume-mode-back3d.is_double volume-mode-either.block_mode_in volume-mode-either.is_deep volume-mode-either.block_mode_of volume-mode-mode3d.volume_of volume-mode-mode3d.low_volume volume-mode-mode3d.high_volume volume-mode-mode3d.volume_mode void-extent-layout.axes_of void-extent-layout.extent_place void-extent-layout.extent_width void-extent-layout.extent_most void-extent-layout.extent_at void-extent-layout.colour_at void-extent-layout.bad_extents void-extent-layout.bad_void_extent void-extent-layout.hdr_void_extent footprint-footprint.footprints footprint-footprint.width_of footprint-footprint.height_of footprint-footprint.depth_of footprint-footprint.sides_of footprint-footprint.is_volume footprint-footprint.texels_of footprint-footprint.is_small texel-blocktexel.sound_texel texel-blocktexel.block_texel texel-blocktexel.block_number_at texel-blocktexel.block_channel texel-blocktexel.block_numbers texel-meaning.plane_weight texel-meaning.second_weight texel-meaning.second_component texel-meaning.mixed_texel texel-meaning.endpoint_levels texel-meaning.weight_levels texel-meaning.texel_from texel-meaning.channel texel-meaning.shown_channel texel-meaning.solid_texel encoding-encoding.sequence_bits integer-sequence-reading.share integer-sequence-reading.code_at integer-sequence-reading.number integer-sequence-reading.sequence_at integer-sequence-reading.numbers bits-field.field bits-field.stream bits-field.reverse void-extent-layout.bad_fixed color-endpoint-table.entry_by color-endpoint-table.table_by color-endpoint-modes.is_hdr block-header-reasons.hdr_refused texel-meaning.solid_number texel-meaning.error_texel halves.unorm_half
volumes_hold = refl
