use native.Mathlib.Omega.{arith}
use Rattle.image_size.specs.Sides.{blocks_across}
use Rattle.image_size.proofs.Laws.{across_le}
use Rattle.image_size.proofs.blocks_across.Goals as goal

pub returns : goal.returns
unfolding blocks_across
returns c = let s = c.before in (c.quotient.ensures, omega (arith, c.quotient.ensures, across_le s.args.side s.args.n s.requires.0, s.requires.1))
