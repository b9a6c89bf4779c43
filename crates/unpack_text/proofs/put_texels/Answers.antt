use mathlib.Core.Path.{◌≡◌, ap, ◌∙◌}
use Prim.Native.Nat.{ℕ}
use native.Mathlib.Omega.{arith}
use lib.ListN.{get_or}
use Rattle.footprint.specs.Footprint.{width_of, texels_of}
use Rattle.footprint.proofs.Laws.{flat_bounds}
use Rattle.interpolation.specs.Expansion.{shown_of}
use Rattle.line_text.specs.Lines.{texel_line, lines_of}
use Rattle.line_text.proofs.Laws.{puts_none, puts_then, puts_as, lines_more}
use Rattle.unpack_text.proofs.put_texels.Goals as goal

-- nothing to write
pub loop-k-init : goal.loop-k-init
unfolding lines_of
loop-k-init c = (omega arith, puts_none _ _)

pub put_texel-at-requires : goal.put_texel-at-requires
put_texel-at-requires c =
    let l = c.loop-k in
    let n = c.texels-count.ensures in
    let b = flat_bounds c.args.fp c.requires.fp_bound in
    let m = b.texels_most in (
      omega (arith, n, m, l.invariant.0, l.invariant.1.same, c.requires.from_bound.0, c.requires.from_bound.1),
      omega (arith, n, m),
      omega (arith, b.width_least, c.width-width.ensures),
    )

pub loop-k-preserved : goal.loop-k-preserved
loop-k-preserved c =
    let l = c.loop-k in
    let p = c.put_texel-at.ensures in
    (omega (arith, p.upper_bound, l.invariant.0), puts_as (lines_more _ l.k) (puts_then l.invariant.1 p.puts))

pub returns : goal.returns
returns c =
    let l = c.loop-k in
    let a = c.args in
    let z : l.k ≡ texels_of a.fp = omega (arith, c.texels-count.ensures) in
    puts_as
    (ap (λ (w : ℕ). lines_of (texel_line w (λ i. shown_of a.kind (get_or a.numbers.now i 0))) l.k) c.width-width.ensures
    ∙ ap (lines_of (texel_line (width_of a.fp) (λ i. shown_of a.kind (get_or a.numbers.now i 0)))) z)
    l.invariant.1

pub shape_of-out : goal.shape_of-out
shape_of-out c = c.loop-k.invariant.1.same
