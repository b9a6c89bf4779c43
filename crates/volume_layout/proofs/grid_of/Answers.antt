use native.Mathlib.Omega.{arith}
use Rattle.volume_layout.specs.inner.Grid.{volume_grid}
use Rattle.volume_layout.proofs.Sizes.{sound}
use Rattle.volume_layout.specs.inner.Parts.{SoundGrid}
use Rattle.volume_layout.proofs.grid_of.Goals as goal
use Rattle.volume_layout.proofs.grid_of.Goals.{Start}

facts : (c : Start) → SoundGrid (volume_grid c.args.footprint c.args.width c.args.height c.args.depth)
facts c = sound _ _ _ _ c.requires.0 c.requires.1

pub blocks_across-across-requires : goal.blocks_across-across-requires
unfolding volume_grid
blocks_across-across-requires c = let b = c.before.before.before in
    let s = facts b in
    let e = c.width-columns.ensures in
    omega (arith, s.columns_least, s.width_most)

pub blocks_across-down-requires : goal.blocks_across-down-requires
unfolding volume_grid
blocks_across-down-requires c = let b = c.before.before.before.before in
    let s = facts b in
    let e = c.height-rows.ensures in
    omega (arith, s.rows_least, s.height_most)

pub blocks_across-deep-requires : goal.blocks_across-deep-requires
unfolding volume_grid
blocks_across-deep-requires c = let b = c.before.before.before.before.before in
    let s = facts b in
    let e = c.depth-layers.ensures in
    omega (arith, s.layers_least, s.depth_most)

pub returns : goal.returns
unfolding volume_grid
returns c = let w = c.width-columns.ensures in
    let h = c.height-rows.ensures in
    let d = c.depth-layers.ensures in
    let x = c.blocks_across-across.ensures in
    let y = c.blocks_across-down.ensures in
    let z = c.blocks_across-deep.ensures in
    rw (z.0, y.0, x.0, d, h, w)
