-- `volume_mode::edge_form` meets its contract. Assumes nothing.
use borrow.Author.Tests.{eq-eqb, ne_eqb}
use Rattle.volume_mode.specs.Back3D.{edge_form}
use Rattle.volume_mode.proofs.edge_form.Goals as goal

pub returns-then-width-eq6 : goal.returns-then-width-eq6
unfolding edge_form
returns-then-width-eq6 c = rw (c.six_form.ensures, eq-eqb _ 6 c.if-width-eq6.true)

pub returns-then-height-eq6 : goal.returns-then-height-eq6
unfolding edge_form
returns-then-height-eq6 c = rw (c.six_form-then-height-eq6.ensures, ne_eqb _ 6 c.if-width-eq6.false, eq-eqb _ 6 c.if-height-eq6.true)

pub returns-then-depth-eq6 : goal.returns-then-depth-eq6
unfolding edge_form
returns-then-depth-eq6 c = rw (c.six_form-then-depth-eq6.ensures, ne_eqb _ 6 c.if-width-eq6.false, ne_eqb _ 6 c.if-height-eq6.false, eq-eqb _ 6 c.if-depth-eq6.true)

pub returns : goal.returns
unfolding edge_form
returns c = rw (c.low_form.ensures, ne_eqb _ 6 c.if-width-eq6.false, ne_eqb _ 6 c.if-height-eq6.false, ne_eqb _ 6 c.if-depth-eq6.false)
