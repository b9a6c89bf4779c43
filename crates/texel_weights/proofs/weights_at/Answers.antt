use mathlib.Core.Path.{◌≡◌, refl}
use Prim.Native.Nat.{◌+◌, ◌*◌, ◌/◌, ◌≤◌, ◌<◌}
use native.Mathlib.Nat.{mul-le-mul_left}
use native.Mathlib.Omega.{arith}
use Rattle.bits.specs.Block.{block_number}
use Rattle.encoding.specs.inner.Levels.{first_level, second_level}
use Rattle.weight_grid.specs.inner.Points.{neighbour_step}
use Rattle.weight_grid.proofs.Reading.{read_lt}
use Rattle.block_levels.proofs.Levels.{points_le}
use Rattle.texel_weights.specs.inner.Points.{points_at}
use Rattle.weight_grid.proofs.Points.{step_le}
use Rattle.texel_weights.proofs.Read.{read_told, bytes_told}
use borrow.Author.Rules.{rules}
use Rattle.texel_weights.proofs.weights_at.Goals as goal
use Rattle.texel_weights.proofs.weights_at.Goals.{Start}

-- what is read are points of the grid
reach : (s : Start) → s.args.gt / 16 * s.args.h.grid.width + s.args.gs / 16 + neighbour_step s.args.gt s.args.h.grid.height s.args.h.grid.width + neighbour_step s.args.gs s.args.h.grid.width 1
    < s.args.h.grid.width * s.args.h.grid.height * s.args.h.grid.depth
reach s =
    let l = s.requires.limits.0 in
    let g = s.args.h.grid in
    omega (arith, read_lt g.width g.height s.args.gs s.args.gt (omega (arith, l.width_low)) (omega (arith, l.height_low)) s.requires.gs_bound.0 s.requires.gs_bound.1, mul-le-mul_left (g.width * g.height) l.depth_low)

room : (s : Start) → s.args.h.grid.width * s.args.h.grid.height * s.args.h.grid.depth ≤ 64
room s = points_le s.args.h.grid s.requires.limits.0 s.requires.limits.1

pub overflow_mul-n : goal.overflow_mul-n
overflow_mul-n c = omega (arith, reach c.before, room c.before)

pub overflow_add-n : goal.overflow_add-n
overflow_add-n c = omega (arith, reach c.before, room c.before)

pub points_at-p-requires : goal.points_at-p-requires
points_at-p-requires c = let s = c.before.before.before in record { limits = s.requires.limits; right_bound = (omega (arith, reach s, c.step-right.ensures, c.step-below.ensures), rw c.step-right.ensures (step_le s.args.gs s.args.h.grid.width 1)) }

pub infill_both-requires : goal.infill_both-requires
infill_both-requires c =
    let p = c.before.before.before.before in
    let s = p.before.before.before.before in
    let a = s.args in
    bytes_told (block_number a.block) a.h (a.gt / 16 * a.h.grid.width + a.gs / 16) p.step-right.result p.step-below.result p.points_at-p.ensures

pub returns : goal.returns
returns c = let p = c.before.before.before.before.before in
    let s = p.before.before.before.before in
    let a = s.args in
    let P = points_at (block_number a.block) a.h in
    let w = a.h.grid.width in
    let h = a.h.grid.height in record { result_value = read_told first_level P w h a.gs a.gt refl p.step-right.ensures p.step-below.ensures p.points_at-p.ensures c.infill_both.ensures.result_value; result_value_2 = read_told second_level P w h a.gs a.gt refl p.step-right.ensures p.step-below.ensures p.points_at-p.ensures c.infill_both.ensures.result_value_2 }
