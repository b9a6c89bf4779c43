use Rattle.bits.specs.Block.{block_number}
use Rattle.symbolic_writer.proofs.Piled.{in_halves}
use borrow.Author.Rules.{rules}
use Rattle.symbolic_writer.proofs.with_block.Goals as goal

pub returns : goal.returns
unfolding block_number
returns c = in_halves _ c.args.p c.args.t.lo c.args.t.hi (search rules) c.append.ensures c.append-2.ensures
