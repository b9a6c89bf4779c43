-- 01: "The P samples form one table, proved against the definitions by a single statement."
-- Assumes nothing.
use mathlib.Core.Path.{refl}
use lib.Count.{count_leading_zeros}
use Rattle.quantization.specs.Ranges.{range_bits, endpoint_range}
use Rattle.quantization.specs.Unquantise.{unquant_endpoint, unquant_weight}
use Rattle.integer_sequence.specs.Writing.{code_of}
use Rattle.footprint.specs.Footprint.{width_of, footprints, height_of, depth_of, is_volume}
use Rattle.weight_grid.specs.Place.{scale_of, grid_place}
use Rattle.endpoint_arithmetic.specs.Pair.{luminance_pair}
use Rattle.endpoint_arithmetic.specs.Signed.{bit_transfer, base_of, offset_of}
use Rattle.color_endpoint.specs.Modes.{pair_of, mode1, low_luminance, high_luminance, mode0, is_hdr}
use Rattle.interpolation.specs.Expansion.{expanded_pair, expanded_end, replicated, centred}
use Rattle.interpolation.specs.Texel.{texel_of, channel_of, mix_of, weight_of}
use Rattle.bits.specs.Block.{number_of}
use Rattle.block_mode.specs.Mode2D.{block_mode}
use Rattle.volume_mode.specs.Either.{block_mode_in}
use Rattle.color_endpoint.specs.Table.{number_count, start_of, numbers_from, entry_by, table_by}
use Rattle.weight_grid.specs.Cell.{level_in, cell_of}
use Rattle.weight_grid.specs.Bilinear.{infill_of, blend_of, w00, w01, w10, w11}
use Rattle.partition.specs.Select.{partition_of}
use Rattle.block_header.specs.Counts.{endpoint_range_of}
use Rattle.block_header.specs.Reasons.{grid_too_large, too_many_weights, weight_bits_outside, four_with_two_planes, too_many_endpoints, too_few_endpoint_bits, some_hdr, hdr_refused}
use Rattle.block_fault.specs.Bits as block
use Rattle.block_fault.specs.Faults.{void_reasons, fault_of}
use Rattle.void_extent.specs.Layout.{extent_place, extent_width, extent_most, extent_at, colour_at, bad_extents, bad_fixed, bad_void_extent, hdr_void_extent, axes_of}
use Rattle.half_float.specs.Half.{toward_zero, unorm_half}
use Rattle.texel.specs.Meaning.{texel_from, plane_weight, second_weight, second_component, shown_channel, solid_number, solid_texel, error_texel}
use Rattle.texel.specs.BlockTexel.{block_number_at}
use Rattle.samples.specs.Samples.{samples, Hold}

pub samples_hold : Hold samples
unfolding code_of range_bits unquant_weight unquant_endpoint bit_transfer base_of offset_of pair_of mode1 luminance_pair low_luminance high_luminance expanded_pair expanded_end replicated centred texel_of channel_of mix_of weight_of width_of footprints scale_of grid_place number_of block_mode_in block_mode is_volume depth_of axes_of extent_place extent_width extent_most height_of endpoint_range mode0 number_count start_of numbers_from entry_by table_by level_in cell_of infill_of blend_of w00 w01 w10 w11 partition_of endpoint_range_of grid_too_large too_many_weights weight_bits_outside four_with_two_planes too_many_endpoints too_few_endpoint_bits is_hdr some_hdr hdr_refused block.header_at block.endpoint_at block.weight_at extent_at colour_at bad_extents bad_fixed bad_void_extent hdr_void_extent void_reasons fault_of count_leading_zeros toward_zero unorm_half solid_number solid_texel error_texel texel_from plane_weight second_weight second_component shown_channel block_number_at
samples_hold = refl
