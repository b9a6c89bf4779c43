-- `volume_mode::volume_mode` meets its contract. Assumes nothing.
use borrow.Author.Tests.{ne_eqb}
use native.Mathlib.Nat.{div-one}
use Rattle.volume_mode.specs.Mode3D.{volume_mode}
use Rattle.volume_mode.proofs.volume_mode.Goals as goal

pub returns-then-bits-eq508 : goal.returns-then-bits-eq508
unfolding volume_mode
returns-then-bits-eq508 c = rw (div-one c.args.bits, c.if-bits-eq508.true)

pub returns-then-bits-eq0 : goal.returns-then-bits-eq0
unfolding volume_mode
returns-then-bits-eq0 c = rw (c.high_volume.ensures, div-one c.args.bits, ne_eqb _ _ c.if-bits-eq508.false, c.if-bits-eq0.true)

pub returns : goal.returns
unfolding volume_mode
returns c = rw (c.low_volume.ensures, div-one c.args.bits, ne_eqb _ _ c.if-bits-eq508.false, ne_eqb _ _ c.if-bits-eq0.false)
