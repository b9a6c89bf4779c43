use Rattle.std.proofs.Common.{eq-eqb, ne_eqb}
use Rattle.clip_reader.proofs.header_end.Goals as goal

-- src/lib.rt:401:1
pub returns-then-have-eq0 : goal.returns-then-have-eq0
returns-then-have-eq0 c = rw (eq-eqb c.args.have 0 c.if-have-eq0.true)

-- src/lib.rt:401:1
pub returns-else-have-eq0 : goal.returns-else-have-eq0
returns-else-have-eq0 c = rw (ne_eqb c.args.have 0 c.if-have-eq0.false, c.into.ensures)
