use Rattle.void_extent.specs.Writing.{fixed_bits}
use Rattle.symbolic_writer.proofs.fixed_bits.Goals as goal

pub returns-then-volume : goal.returns-then-volume
unfolding fixed_bits
returns-then-volume c = rw c.if-volume.true

pub returns-else-volume : goal.returns-else-volume
unfolding fixed_bits
returns-else-volume c = rw c.if-volume.false
