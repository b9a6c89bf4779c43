use Rattle.block_mode.specs.Back2D.{both_high}
use Rattle.block_mode.proofs.both_high.Goals as goal

pub returns-then-width-height : goal.returns-then-width-height
unfolding both_high
returns-then-width-height c = rw (c.even_form.ensures, c.if-width-height.true)

pub returns-then-width-height-2 : goal.returns-then-width-height-2
unfolding both_high
returns-then-width-height-2 c = rw (c.high_form.ensures, c.if-width-height.false, c.if-width-height-2.true)

pub returns-then-width-height-3 : goal.returns-then-width-height-3
unfolding both_high
returns-then-width-height-3 c = rw (c.high_form-then-width-height-3.ensures, c.if-width-height.false, c.if-width-height-2.false, c.if-width-height-3.true)

pub returns : goal.returns
unfolding both_high
returns c = rw (c.if-width-height.false, c.if-width-height-2.false, c.if-width-height-3.false)
