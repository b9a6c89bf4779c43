use mathlib.Core.Path.{ap}
use Rattle.laws.specs.Table.{tab, tab_from}
use Rattle.symbolic_numbers.specs.Numbers.{block_over}
use Rattle.symbolic_numbers.proofs.block_from.Goals as goal

pub returns : goal.returns
unfolding block_over tab tab_from
returns c = rw (c.stored_from-weights.ensures, c.stored_from-endpoints.ensures) (ap (block_over c.args.numbers.now) c.clipped_numbers-bytes.ensures)
