-- `half_pair::expand` meets its contract.
use native.Mathlib.Omega.{arith}
use Rattle.half_pair.specs.Pair.{expand_half}
use Rattle.interpolation.specs.Expansion.{replicated}
use Rattle.half_pair.proofs.expand.Goals as goal

pub overflow_mul-result-else-hdr : goal.overflow_mul-result-else-hdr
overflow_mul-result-else-hdr c = let h = c.requires.1 c.if-hdr.false in record { fits = omega (arith, h) }

pub returns-then-hdr : goal.returns-then-hdr
unfolding expand_half
returns-then-hdr c = rw c.if-hdr.true

pub returns-else-hdr : goal.returns-else-hdr
unfolding expand_half replicated
returns-else-hdr c = rw c.if-hdr.false
