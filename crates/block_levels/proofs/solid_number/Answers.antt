use Rattle.texel.specs.Meaning.{solid_number}
use Rattle.block_levels.proofs.solid_number.Goals as goal

pub returns-then-half : goal.returns-then-half
unfolding solid_number
returns-then-half c = rw (c.if-half.true, c.unorm_half.ensures)

pub returns-else-half : goal.returns-else-half
unfolding solid_number
returns-else-half c = rw c.if-half.false
