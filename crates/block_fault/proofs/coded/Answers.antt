use mathlib.Core.Path.{◌≡◌, sym, ap, ◌∙◌}
use Prim.Native.Nat.{ℕ, ◌+◌}
use Rattle.std.specs.Prelude.{min}
use native.Mathlib.Omega.{arith}
use Rattle.bits.specs.Field.{field}
use Rattle.bits.specs.Block.{block_number}
use Rattle.footprint.specs.Footprint.{is_volume}
use Rattle.volume_mode.proofs.Modes.{any_limits}
use Rattle.block_header.proofs.Laws.{grid_bits, ends_count}
use Rattle.block_fault.specs.Bits.{mode_at, partitions_at}
use Rattle.block_fault.specs.inner.Settings.{with_counts}
use Rattle.block_fault.proofs.Laws.{Narrow, narrow, made_grid}
use Rattle.block_fault.proofs.Stages.{carried, stop_grid, stop_planes, header_read, end_stage}
use Rattle.reason.proofs.Answers.{opened, passed}
use Rattle.block_fault.proofs.coded.Goals as goal

-- the two bits of the partitions
bits : (B n : ℕ) → n ≡ field B 11 (min 2 64) → Narrow B 11 2 2 n
bits B n e = narrow B 11 2 2 (omega arith) (omega arith) e

counted : (B n : ℕ) → n ≡ field B 11 (min 2 64) → n + 1 ≡ partitions_at B
unfolding partitions_at
counted B n e = ap (λ (m : ℕ). m + 1) (bits B n e).is

pub returns-in_default : goal.returns-in_default
returns-in_default c =
    opened c.unwrap_err.ensures c.grid_stage-grid.ensures (stop_grid c.args.hdr c.args.fp (block_number c.args.b) c.args.g c.requires)

pub overflow_cast-partitions : goal.overflow_cast-partitions
overflow_cast-partitions c = omega (arith, (bits _ _ c.field_at.ensures).below)

pub overflow_add-partitions : goal.overflow_add-partitions
overflow_add-partitions c = omega (arith, (bits _ _ c.field_at.ensures).below)

pub returns-in_default-planes : goal.returns-in_default-planes
returns-in_default-planes c =
    opened c.unwrap_err-in_default-planes.ensures c.planes_stage-planes.ensures
    (stop_planes c.args.hdr c.args.fp (block_number c.args.b) c.args.g c.requires (passed c.in-Ok.is c.grid_stage-grid.ensures) (counted _ _ c.field_at.ensures))

pub overflow_cast-weights : goal.overflow_cast-weights
overflow_cast-weights c = omega (arith, c.weight_bits-weights.ensures, grid_bits c.args.fp c.args.g (sym (passed c.in-Ok.is c.grid_stage-grid.ensures)))

pub header_at-header-requires : goal.header_at-header-requires
unfolding mode_at
header_at-header-requires c =
    let w = c.weight_bits-weights.ensures in
    (omega (arith, (bits _ _ c.field_at.ensures).below), (any_limits (is_volume c.args.fp) _ c.args.g c.requires).planes_most, w, rw w (grid_bits c.args.fp c.args.g (sym (passed c.in-Ok.is c.grid_stage-grid.ensures))))

pub bits_left_with-left-requires : goal.bits_left_with-left-requires
bits_left_with-left-requires c = rw (made_grid _ _ _ _ c.header_at-header.ensures) c.weight_bits-weights.ensures

pub returns-in_default-ends : goal.returns-in_default-ends
returns-in_default-ends c =
    opened c.unwrap_err-in_default-ends.ensures c.endpoint_stage-ends.ensures
    (λ k e n. end_stage c.args.hdr c.args.fp (block_number c.args.b) c.args.g c.requires (passed c.in-Ok.is c.grid_stage-grid.ensures) (counted _ _ c.field_at.ensures)
    (passed c.in-Ok-planes.is c.planes_stage-planes.ensures) c.header_at-header.ensures k e)

pub overflow_cast-result : goal.overflow_cast-result
overflow_cast-result c = omega (arith, c.endpoint_count-count.ensures.0, ends_count _ _ (sym (passed c.in-Ok-ends.is c.endpoint_stage-ends.ensures)))

pub returns : goal.returns
returns c =
    let g = passed c.in-Ok.is c.grid_stage-grid.ensures in
    let n = counted _ _ c.field_at.ensures in
    let p = passed c.in-Ok-planes.is c.planes_stage-planes.ensures in
    let h = c.header_at-header.ensures in (
      sym (end_stage c.args.hdr c.args.fp (block_number c.args.b) c.args.g c.requires g n p h 0 (passed c.in-Ok-ends.is c.endpoint_stage-ends.ensures)),
      carried c.endpoint_count-count.ensures.0 c.bits_left_with-left.ensures.0 c.endpoint_range.ensures
          ∙ ap with_counts (header_read c.args.hdr c.args.fp (block_number c.args.b) c.args.g c.requires g n p h),
    )
