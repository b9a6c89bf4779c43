use mathlib.Core.Path.{◌∙◌}
use Rattle.block_fault.specs.Bits.{weight_at}
use Rattle.symbolic_reader.proofs.Laws.{all_numbers}
use Rattle.symbolic_reader.proofs.weights.Goals as goal

pub returns : goal.returns
unfolding weight_at
returns c =
    let h = c.args.h in
    c.read_sequence.ensures
    ∙ all_numbers _ _ _ _
    ∙ rw (c.reversed.ensures, c.weight_count-n.ensures.0)
