-- `volume_mode::high_volume` meets its contract. Assumes nothing.
use borrow.Author.Tests.{ne_eqb}
use Rattle.volume_mode.specs.Mode3D.{high_volume}
use Rattle.volume_mode.proofs.high_volume.Goals as goal

pub returns-then-bits-eq0 : goal.returns-then-bits-eq0
unfolding high_volume
returns-then-bits-eq0 c = rw c.if-bits-eq0.true

pub returns-in-0 : goal.returns-in-0
unfolding high_volume
returns-in-0 c = rw (c.grid.ensures, ne_eqb _ _ c.if-bits-eq0.false, c.in-0.is)

pub returns-in-1 : goal.returns-in-1
unfolding high_volume
returns-in-1 c = rw (c.grid-in-1.ensures, ne_eqb _ _ c.if-bits-eq0.false, c.in-1.is)

pub returns-in-2 : goal.returns-in-2
unfolding high_volume
returns-in-2 c = rw (c.grid-in-2.ensures, ne_eqb _ _ c.if-bits-eq0.false, c.in-2.is)

pub returns-in-0-a : goal.returns-in-0-a
unfolding high_volume
returns-in-0-a c = rw (c.grid-in-0-a.ensures, ne_eqb _ _ c.if-bits-eq0.false, ne_eqb _ _ c.in_default.in_default-own.rest.0.0.1, ne_eqb _ _ c.in_default.in_default-own.rest.0.1, ne_eqb _ _ c.in_default.in_default-own.rest.1, c.in-0-a.is)

pub returns-in-1-a : goal.returns-in-1-a
unfolding high_volume
returns-in-1-a c = rw (c.grid-in-1-a.ensures, ne_eqb _ _ c.if-bits-eq0.false, ne_eqb _ _ c.in_default.in_default-own.rest.0.0.1, ne_eqb _ _ c.in_default.in_default-own.rest.0.1, ne_eqb _ _ c.in_default.in_default-own.rest.1, c.in-1-a.is)

pub returns-in-2-a : goal.returns-in-2-a
unfolding high_volume
returns-in-2-a c = rw (c.grid-in-2-a.ensures, ne_eqb _ _ c.if-bits-eq0.false, ne_eqb _ _ c.in_default.in_default-own.rest.0.0.1, ne_eqb _ _ c.in_default.in_default-own.rest.0.1, ne_eqb _ _ c.in_default.in_default-own.rest.1, c.in-2-a.is)

pub returns-in_default-a : goal.returns-in_default-a
unfolding high_volume
returns-in_default-a c = rw (ne_eqb _ _ c.if-bits-eq0.false, ne_eqb _ _ c.in_default.in_default-own.rest.0.0.1, ne_eqb _ _ c.in_default.in_default-own.rest.0.1, ne_eqb _ _ c.in_default.in_default-own.rest.1, ne_eqb _ _ c.in_default-a.in_default-a-own.rest.0.0.1, ne_eqb _ _ c.in_default-a.in_default-a-own.rest.0.1, ne_eqb _ _ c.in_default-a.in_default-a-own.rest.1)
