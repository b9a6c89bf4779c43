-- `hdr_endpoint::direct` meets its contract.
use borrow.Author.Tests.{eq-eqb, ne_eqb}
use Rattle.hdr_endpoint.specs.Direct.{major_bits, direct_mode, direct}
use borrow.Author.Rules.{rules}
use Rattle.hdr_endpoint.proofs.direct.Goals as goal

pub returns-then-major-eq3 : goal.returns-then-major-eq3
unfolding direct major_bits
returns-then-major-eq3 c = rw (eq-eqb _ 3 c.if-major-eq3.true) c.plain_ends.ensures

pub returns-else-major-eq3 : goal.returns-else-major-eq3
unfolding direct major_bits direct_mode
returns-else-major-eq3 c = rw (ne_eqb _ 3 c.if-major-eq3.false) c.fields_shifted.ensures
