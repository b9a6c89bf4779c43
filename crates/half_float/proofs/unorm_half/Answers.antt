-- `half_float::unorm_half` meets its contract.
use borrow.Author.Tests.{eq-eqb, ne_eqb}
use Rattle.half_float.specs.Half.{unorm_half}
use borrow.Author.Rules.{rules}
use Rattle.half_float.proofs.unorm_half.Goals as goal

pub returns-then-c-eq65535 : goal.returns-then-c-eq65535
unfolding unorm_half
returns-then-c-eq65535 c = rw (eq-eqb _ 65535 c.if-c-eq65535.true)

pub returns-else-c-eq65535 : goal.returns-else-c-eq65535
unfolding unorm_half
returns-else-c-eq65535 c = rw (c.toward_zero.ensures, ne_eqb _ 65535 c.if-c-eq65535.false)
