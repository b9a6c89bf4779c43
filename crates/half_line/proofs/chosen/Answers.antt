-- `half_line::chosen` meets its contract.
use borrow.Author.Tests.{eq-eqb, ne_eqb}
use Rattle.half_line.proofs.chosen.Goals as goal

pub returns-then-channel-component : goal.returns-then-channel-component
returns-then-channel-component c = rw (eq-eqb _ _ c.if-channel-component.true)

pub returns-else-channel-component : goal.returns-else-channel-component
returns-else-channel-component c = rw (ne_eqb _ _ c.if-channel-component.false)
