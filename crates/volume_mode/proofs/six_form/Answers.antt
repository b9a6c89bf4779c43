-- `volume_mode::six_form` meets its contract. Assumes nothing.
use Rattle.volume_mode.specs.Back3D.{six_form}
use Rattle.volume_mode.proofs.six_form.Goals as goal

pub returns-then-low : goal.returns-then-low
unfolding six_form
returns-then-low c = rw (c.even_form.ensures, c.if-a-b.true, c.if-low.true)

pub returns-then-corner : goal.returns-then-corner
unfolding six_form
returns-then-corner c = rw (c.high_form.ensures, c.if-a-b.true, c.if-low.false, c.if-corner.true)

pub returns-then-a-b : goal.returns-then-a-b
unfolding six_form
returns-then-a-b c = rw (c.if-a-b.true, c.if-low.false, c.if-corner.false)

pub returns : goal.returns
unfolding six_form
returns c = rw (c.if-a-b.false)
