use Rattle.bits.specs.Field.{field}
use Rattle.bits.proofs.part.Goals as goal

pub returns : goal.returns
unfolding field
returns c = rw (c.first_bits.ensures, c.shifted.ensures)
