use Rattle.std.proofs.Common.{eq-eqb, ne_eqb}
use Rattle.clip.specs.Step.{version_step}
use Rattle.clip_reader.proofs.version_step.Goals as goal

-- src/lib.rt:157:1
pub returns-then-b-eq1 : goal.returns-then-b-eq1
unfolding version_step
returns-then-b-eq1 c = rw (c.quiet.ensures, c.enter.ensures, eq-eqb _ 1 c.if-b-eq1.true)

-- src/lib.rt:157:1
pub returns-else-b-eq1 : goal.returns-else-b-eq1
unfolding version_step
returns-else-b-eq1 c = rw (c.stop.ensures, ne_eqb _ 1 c.if-b-eq1.false)
