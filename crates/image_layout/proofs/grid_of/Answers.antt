use native.Mathlib.Omega.{arith}
use Rattle.image_layout.specs.inner.Grid.{image_grid}
use Rattle.image_layout.proofs.Calls.{sound}
use Rattle.image_layout.proofs.grid_of.Goals as goal

pub blocks_across-across-requires : goal.blocks_across-across-requires
unfolding image_grid
blocks_across-across-requires c = let b = c.before.before in
    let s = sound b.args.footprint b.args.width b.args.height b.requires.0 b.requires.1 b.requires.2 in
    let e = c.width-columns.ensures in
    omega (arith, s.columns_least, s.width_most)

pub blocks_across-down-requires : goal.blocks_across-down-requires
unfolding image_grid
blocks_across-down-requires c = let b = c.before.before.before in
    let s = sound b.args.footprint b.args.width b.args.height b.requires.0 b.requires.1 b.requires.2 in
    let e = c.height-rows.ensures in
    omega (arith, s.rows_least, s.height_most)

pub returns : goal.returns
unfolding image_grid
returns c = let w = c.width-columns.ensures in
    let h = c.height-rows.ensures in
    let a = c.blocks_across-across.ensures in
    let d = c.blocks_across-down.ensures in
    rw (d.0, a.0, h, w)
