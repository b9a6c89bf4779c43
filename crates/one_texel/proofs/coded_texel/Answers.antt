use mathlib.Core.Path.{◌≡◌, ◌∙◌}
use Rattle.bits.specs.Block.{block_number}
use Rattle.footprint.specs.Footprint.{width_of, height_of}
use Rattle.weight_grid.specs.Place.{scale_of, grid_place}
use Rattle.one_texel.proofs.Coded.{column_in, row_in, coded_told, one_of_them, one_of_four}
use Rattle.one_texel.proofs.coded_texel.Goals as goal
use Rattle.one_texel.proofs.coded_texel.Goals.{After-grid_place-gs, After-grid_place-gt}

-- the place on the grid
column : (c : After-grid_place-gs) → let s = c.before.before.before.before.before.before.before in c.grid_place-gs.result ≡ grid_place (scale_of (width_of s.args.fp)) s.args.x s.args.s.header.grid.width
column c = c.grid_place-gs.ensures ∙ rw (c.scale-across.ensures, c.width.ensures)

row : (c : After-grid_place-gt) → let s = c.before.before.before.before.before.before.before.before in c.grid_place-gt.result ≡ grid_place (scale_of (height_of s.args.fp)) s.args.y s.args.s.header.grid.height
row c = c.grid_place-gt.ensures ∙ rw (c.scale-down.ensures, c.height.ensures)

pub weights_at-both-requires : goal.weights_at-both-requires
weights_at-both-requires c = let s = c.before.before.before.before.before.before.before.before in
    let a = s.args in
    let h = a.s.header in
    let l = s.requires.limits in
    let n = s.requires.grid_bound.0 in
    let inside = s.requires.x_bound in record { limits = (l, n); gs_bound = (column_in a.fp h l n a.x a.y inside.0 inside.1 (column c.before), row_in a.fp h l n a.x a.y inside.0 inside.1 (row c)) }

pub partition_texel-requires : goal.partition_texel-requires
partition_texel-requires c = let q = c.before in
    let m = q.before in
    let s = m.before.before.before.before.before.before.before.before.before.before in
    let a = s.args in
    let h = a.s.header in
    let e = q.partition_of-p.ensures in record { n_value = (s.requires.numbers_value.0, rw s.requires.numbers_value.0 s.requires.grid_bound.1, s.requires.numbers_value.1); p_lt_partitions = (one_of_them h m.is_small-small.result a.x a.y e s.requires.le_partitions, one_of_four h m.is_small-small.result a.x a.y e) }

pub returns : goal.returns
returns c =
    let o = c.before in
    let q = o.before in
    let w = q.before.before in
    let s = w.before.before.before.before.before.before.before.before.before in
    let a = s.args in
    let inside = s.requires.x_bound in
    coded_told a.fp a.s.header s.requires.limits s.requires.grid_bound.0 a.x a.y inside.0 inside.1 s.requires.fp_value.0 s.requires.fp_value.1 a.kind (block_number a.block) w.weights_at-both.result
    (column w.before.before) (row w.before) w.weights_at-both.ensures.result_value w.weights_at-both.ensures.result_value_2
    (q.partition_of-p.ensures ∙ rw q.is_small-small.ensures) o.second_component-component.ensures c.partition_texel.ensures
