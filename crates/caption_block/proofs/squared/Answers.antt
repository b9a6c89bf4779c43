use native.Mathlib.Omega.{arith}
use Rattle.grey_caption.specs.Caption.{squared}
use Rattle.caption_block.proofs.Laws.{square_le}
use Rattle.caption_block.proofs.squared.Goals as goal

pub overflow_mul-result : goal.overflow_mul-result
overflow_mul-result c = omega (arith, square_le c.apart-d.result c.apart-d.ensures.1)

pub returns : goal.returns
unfolding squared
returns c = rw c.apart-d.ensures.0
