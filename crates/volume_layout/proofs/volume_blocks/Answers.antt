use mathlib.Core.Path.{sym, ◌∙◌, subst}
use native.Mathlib.Omega.{arith}
use borrow.Author.Tests.{lt-ltb, le-ltb}
use Rattle.volume_layout.specs.Call.{volume_blocks}
use Rattle.volume_layout.proofs.Sizes.{sound, block_count}
use Rattle.volume_layout.specs.inner.Parts.{SoundGrid}
use Rattle.volume_layout.proofs.volume_blocks.Goals as goal

pub returns-then-footprint-gt23 : goal.returns-then-footprint-gt23
unfolding volume_blocks
returns-then-footprint-gt23 c = rw (lt-ltb 23 _ c.if-footprint-gt23.true)

pub returns-then-bad_sizes : goal.returns-then-bad_sizes
unfolding volume_blocks
returns-then-bad_sizes c = rw (le-ltb _ _ c.if-footprint-gt23.false, ← c.bad_sizes.ensures, c.if-bad_sizes.true)

pub grid_of-g-requires : goal.grid_of-g-requires
grid_of-g-requires c = (let l = c.if-footprint-gt23.false in omega arith, sym c.bad_sizes.ensures ∙ c.if-bad_sizes.false)

pub product-requires : goal.product-requires
product-requires c =
    let t = c.before in
    let s = subst SoundGrid (sym c.grid_of-g.ensures) (sound _ _ _ _ (let l = t.if-footprint-gt23.false in omega arith) (sym t.bad_sizes.ensures ∙ t.if-bad_sizes.false)) in
    (s.deep_most, s.down_most, s.across_most)

pub returns : goal.returns
unfolding volume_blocks
returns c =
    let t = c.before.before in
    rw (le-ltb _ _ t.if-footprint-gt23.false, ← t.bad_sizes.ensures, t.if-bad_sizes.false) (block_count _ _ _ _ c.grid_of-g.ensures c.product.ensures.0)
