use Rattle.symbolic_block.specs.Writing.{component_from}
use borrow.Author.Rules.{rules}
use Rattle.symbolic_writer.proofs.component_from.Goals as goal

pub returns : goal.returns
unfolding component_from
returns c = search rules
