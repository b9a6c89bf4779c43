use mathlib.Core.Path.{◌∙◌}
use native.Mathlib.Omega.{arith}
use Rattle.quantization.proofs.Levels.{weight_le}
use Rattle.grey_caption.specs.Caption.{grey_of}
use Rattle.grey_caption.proofs.Picture.{expanded}
use Rattle.caption_block.proofs.grey.Goals as goal

pub mixed-requires : goal.mixed-requires
mixed-requires c =
    let level = c.unquantize_weight-level in
    (omega arith, omega arith, omega (arith, c.wide-3.ensures.0, level.ensures, weight_le 2 c.args.w))

pub returns : goal.returns
unfolding grey_of
returns c =
    let w = c in
    let a = w.args in
    c.mixed.ensures
    ∙ rw (w.wide.ensures.0, c.wide-2.ensures.0, c.wide-3.ensures.0, w.unquantize_weight-level.ensures, expanded a.e0, expanded a.e1)
