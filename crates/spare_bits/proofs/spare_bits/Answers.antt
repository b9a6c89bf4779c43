use mathlib.Core.Path.{◌∙◌}
use Rattle.spare_bits.proofs.Leftover.{left_is}
use borrow.Author.Rules.{rules}
use Rattle.spare_bits.proofs.spare_bits.Goals as goal

pub returns : goal.returns
returns c =
    let x = c.before in
    let w = x.before.before in
    c.bits_left.ensures
    ∙ left_is w.args.h w.requires.0 w.clipped_weight_bits.ensures.0 x.component_bits.ensures.0 x.extra_bits.ensures.0
