use mathlib.Core.Bool.{false}
use mathlib.Core.Path.{◌≡◌, sym, ap, ◌∙◌, subst}
use Prim.Native.Nat.{ℕ, ◌*◌, ◌≤◌}
use native.Mathlib.Omega.{arith}
use Rattle.volume_layout.specs.Numbers.{texels_in}
use Rattle.volume_layout.specs.Call.{bad_sizes, blocks_of}
use Rattle.volume_layout.proofs.Sizes.{sound, refused_1, refused_3, refused_4, refused_5, refused_none, block_count, texel_count}
use Rattle.volume_layout.specs.inner.Parts.{SoundGrid}
use Rattle.volume_layout.proofs.check_volume.Goals as goal
use Rattle.volume_layout.proofs.check_volume.Goals.{After-grid_of-g, After-product-blocks, After-product-texels, Else-bad_sizes}

-- what is known past the first two tests
low : (c : Else-bad_sizes) → c.args.footprint ≤ 23
low c = c.if-footprint-gt23.false

fine : (c : Else-bad_sizes) → (let a = c.args in bad_sizes a.width a.height a.depth) ≡ false
fine c = sym c.bad_sizes.ensures ∙ c.if-bad_sizes.false

layout : (c : After-grid_of-g) → SoundGrid c.grid_of-g.result
layout c = subst SoundGrid (sym c.grid_of-g.ensures) (sound _ _ _ _ (let l = low c.before in omega arith) (fine c.before))

-- the counts that the lengths are compared with
blocks : (c : After-product-blocks) → (let a = c.args in c.product-blocks.result ≡ blocks_of a.footprint a.width a.height a.depth)
blocks c = block_count _ _ _ _ c.grid_of-g.ensures c.product-blocks.ensures.0

texels : (c : After-product-texels) → (let a = c.args in c.product-texels.result ≡ texels_in a.width a.height a.depth)
texels c = let a = c.args in
    texel_count a.footprint _ _ _ c.grid_of-g.ensures c.product-texels.ensures.0

pub returns-then-footprint-gt23 : goal.returns-then-footprint-gt23
returns-then-footprint-gt23 c = sym (refused_1 _ _ _ _ _ _ c.if-footprint-gt23.true)

pub returns-then-bad_sizes : goal.returns-then-bad_sizes
returns-then-bad_sizes c = sym (refused_3 _ _ _ _ _ _ c.if-footprint-gt23.false (sym c.bad_sizes.ensures ∙ c.if-bad_sizes.true))

pub grid_of-g-requires : goal.grid_of-g-requires
grid_of-g-requires c = (let l = low c in omega arith, fine c)

pub product-blocks-requires : goal.product-blocks-requires
product-blocks-requires c = let s = layout c in (s.deep_most, s.down_most, s.across_most)

pub returns-then-bytes-blocks : goal.returns-then-bytes-blocks
returns-then-bytes-blocks c = let k = c.before in
    let t = k.before.before in
    sym (refused_4 _ _ _ _ _ _ (low t) (fine t) (λ e. c.if-bytes-blocks.true (e ∙ ap (λ (n : ℕ). 16 * n) (sym (blocks k)))))

pub product-texels-requires : goal.product-texels-requires
product-texels-requires c = let s = layout c.before.before in (s.depth_most, s.height_most, s.width_most)

pub returns-then-places-texels : goal.returns-then-places-texels
returns-then-places-texels c = let k = c.before in
    let p = k.before.before in
    let t = p.before.before in
    sym (refused_5 _ _ _ _ _ _ (low t) (fine t) (k.if-bytes-blocks.false ∙ ap (λ (n : ℕ). 16 * n) (blocks p)) (λ e. c.if-places-texels.true (e ∙ ap (λ (n : ℕ). 4 * n) (sym (texels k)))))

pub returns : goal.returns
returns c = let k = c.before in
    let p = k.before.before in
    let t = p.before.before in (
      refused_none _ _ _ _ _ _ (low t) (fine t) (k.if-bytes-blocks.false ∙ ap (λ (n : ℕ). 16 * n) (blocks p)) (c.if-places-texels.false ∙ ap (λ (n : ℕ). 4 * n) (texels k)),
      p.grid_of-g.ensures,
    )
