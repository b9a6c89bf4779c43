use mathlib.Core.Path.{sym}
use native.Mathlib.Omega.{arith}
use Rattle.bits.specs.Block.{block_number}
use Rattle.bits.proofs.Reverse.{reverse_join}
use Rattle.bits.proofs.reversed.Goals as goal

pub returns : goal.returns
unfolding block_number
returns c = rw (c.reverse_word-lo.ensures, c.reverse_word-hi.ensures) (sym (reverse_join 64 64 c.args.b.hi c.args.b.lo (omega arith)))
