use mathlib.Core.Path.{refl}
use Rattle.image_texel.proofs.Ask.{flat_blocks, wide_fine, bounded, asked_told}
use native.Mathlib.Omega.{arith}
use Rattle.image_texel.proofs.asked_in.Goals as goal

pub blocks_across-across-requires : goal.blocks_across-across-requires
blocks_across-across-requires c = wide_fine _ _ _ _ c.requires.blocks_value c.width-columns.ensures

pub in_block-column-requires : goal.in_block-column-requires
in_block-column-requires c =
    let f = bounded _ _ _ _ c.requires.blocks_value _ _ c.requires.x_lt_width.0 c.requires.x_lt_width.1 c.width-columns.ensures c.height-rows.ensures c.blocks_across-across.ensures.0 in
    omega (arith, f.column)

pub in_block-row-requires : goal.in_block-row-requires
in_block-row-requires c =
    let f = bounded _ _ _ _ c.requires.blocks_value _ _ c.requires.x_lt_width.0 c.requires.x_lt_width.1 c.width-columns.ensures c.height-rows.ensures c.blocks_across-across.ensures.0 in
    omega (arith, f.row)

pub overflow_mul-b : goal.overflow_mul-b
overflow_mul-b c =
    let f = bounded _ _ _ _ c.requires.blocks_value _ _ c.requires.x_lt_width.0 c.requires.x_lt_width.1 c.width-columns.ensures c.height-rows.ensures c.blocks_across-across.ensures.0 in
    rw c.in_block-row.ensures.0 (omega (arith, f.small))

pub overflow_add-b : goal.overflow_add-b
overflow_add-b c =
    let f = bounded _ _ _ _ c.requires.blocks_value _ _ c.requires.x_lt_width.0 c.requires.x_lt_width.1 c.width-columns.ensures c.height-rows.ensures c.blocks_across-across.ensures.0 in
    rw (c.in_block-row.ensures.0, c.in_block-column.ensures.0) (omega (arith, f.small))

pub overflow_cast-b : goal.overflow_cast-b
overflow_cast-b c =
    let f = bounded _ _ _ _ c.requires.blocks_value _ _ c.requires.x_lt_width.0 c.requires.x_lt_width.1 c.width-columns.ensures c.height-rows.ensures c.blocks_across-across.ensures.0 in
    rw (c.in_block-row.ensures.0, c.in_block-column.ensures.0) (omega (arith, f.small))

pub block_of-block-requires : goal.block_of-block-requires
block_of-block-requires c =
    let f = bounded _ _ _ _ c.requires.blocks_value _ _ c.requires.x_lt_width.0 c.requires.x_lt_width.1 c.width-columns.ensures c.height-rows.ensures c.blocks_across-across.ensures.0 in
    rw (c.in_block-row.ensures.0, c.in_block-column.ensures.0) (omega (arith, f.room))

pub texel_of-t-requires : goal.texel_of-t-requires
texel_of-t-requires c =
    let f = bounded _ _ _ _ c.requires.blocks_value _ _ c.requires.x_lt_width.0 c.requires.x_lt_width.1 c.width-columns.ensures c.height-rows.ensures c.blocks_across-across.ensures.0 in
    record {
      fp_bound = flat_blocks _ _ _ _ c.requires.blocks_value;
      x_bound = (omega (arith, c.in_block-column.ensures.1, f.column, c.width-columns.ensures), omega (arith, c.in_block-row.ensures.1, f.row, c.height-rows.ensures));
    }

pub returns : goal.returns
returns c = (
  asked_told _ _ c.args.blocks.now c.args.kind c.args.x c.args.y c.texel_of-t.result c.width-columns.ensures c.height-rows.ensures c.blocks_across-across.ensures.0
      (rw (c.in_block-row.ensures.0, c.in_block-column.ensures.0) refl) c.block_of-block.ensures c.in_block-column.ensures.1 c.in_block-row.ensures.1 c.texel_of-t.ensures c.shown.ensures.0,
  c.shown.ensures.1,
)
