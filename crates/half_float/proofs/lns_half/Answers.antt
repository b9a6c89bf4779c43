-- `half_float::lns_half` meets its contract.
use borrow.Author.Tests.{eq-eqb, ne_eqb}
use Rattle.half_float.specs.Half.{unbounded, lns_half}
use borrow.Author.Rules.{rules}
use Rattle.half_float.proofs.lns_half.Goals as goal

pub returns-then-v-eq31 : goal.returns-then-v-eq31
unfolding lns_half unbounded
returns-then-v-eq31 c = rw (← c.lns_value-v.ensures, eq-eqb _ 31 c.if-v-eq31.true)

pub returns-else-v-eq31 : goal.returns-else-v-eq31
unfolding lns_half unbounded
returns-else-v-eq31 c = rw (← c.lns_value-v.ensures, ne_eqb _ 31 c.if-v-eq31.false)
