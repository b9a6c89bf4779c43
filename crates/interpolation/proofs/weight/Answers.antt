-- `interpolation::weight` meets its contract.
use Rattle.std.proofs.Common.{eq-eqb, ne_eqb}
use Rattle.interpolation.proofs.weight.Goals as goal

pub returns-then-channel-component : goal.returns-then-channel-component
returns-then-channel-component c = rw (eq-eqb _ _ c.if-channel-component.true)

pub returns-else-channel-component : goal.returns-else-channel-component
returns-else-channel-component c = rw (ne_eqb _ _ c.if-channel-component.false)
