use mathlib.Core.Path.{◌≡◌, sym, subst}
use Prim.Native.Nat.{ℕ, ◌*◌, ◌<◌}
use native.Mathlib.Omega.{arith}
use Rattle.footprint.proofs.Laws.{flat_bounds}
use Rattle.image_size.specs.Sides.{blocks_of}
use Rattle.image_size.proofs.Laws.{limit_le, sized, side_fine, blocks_pos, product_most}
use Rattle.image_size.proofs.blocks_of.Goals as goal

pub blocks_across-requires : goal.blocks_across-requires
blocks_across-requires c = let b = c.before.before in
    let a = b.args in
    let s = sized a.footprint a.width a.height b.requires in
    let k = flat_bounds a.footprint (let f = s.footprint in omega arith) in
    let e = c.height-rows.ensures in
    omega (arith, k.height_least, (side_fine a.height s.high).1, limit_le)

pub blocks_across-requires-2 : goal.blocks_across-requires-2
blocks_across-requires-2 c = let b = c.before.before.before in
    let a = b.args in
    let s = sized a.footprint a.width a.height b.requires in
    let k = flat_bounds a.footprint (let f = s.footprint in omega arith) in
    let e = c.width-columns.ensures in
    omega (arith, k.width_least, (side_fine a.width s.wide).1, limit_le)

pub overflow_mul-result : goal.overflow_mul-result
overflow_mul-result c = let m = product_most _ _ c.blocks_across.ensures.1 c.blocks_across-2.ensures.1 in omega (arith, m)

pub returns : goal.returns
unfolding blocks_of
returns c = let b = c.before.before.before.before in
    let a = b.args in
    let w = c.width-columns.ensures in
    let h = c.height-rows.ensures in
    let x = c.blocks_across.ensures in
    let y = c.blocks_across-2.ensures in
    let e : c.blocks_across.result * c.blocks_across-2.result ≡ blocks_of a.footprint a.width a.height = rw (x.0, y.0, w, h) in
    (e, subst (λ (n : ℕ). 0 < n) (sym e) (blocks_pos a.footprint a.width a.height b.requires), product_most _ _ x.1 y.1)
