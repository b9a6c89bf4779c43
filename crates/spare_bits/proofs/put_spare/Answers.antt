use Rattle.spare_bits.proofs.Leftover.{two_set}
use borrow.Author.Rules.{rules}
use Rattle.spare_bits.proofs.put_spare.Goals as goal

pub returns : goal.returns
returns c = two_set c.args.spare.now c.requires c.wide.ensures c.one_if.ensures
