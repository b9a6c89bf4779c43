use lib.ListN.{length}
use mathlib.Core.Path.{◌≡◌, ap, ◌∙◌}
use Rattle.block_header.specs.Counts.{weight_count}
use Rattle.symbolic_block.specs.Fields.{sheet_grid}
use native.Mathlib.Omega.{arith}
use Rattle.symbolic_writer.proofs.Parts.{weight_steps}
use Rattle.symbolic_writer.proofs.weights_of.Goals as goal
use Rattle.symbolic_writer.proofs.weights_of.Goals.{After-part}

long_enough : (c : After-part) → length c.args.s.weights ≡ 64
long_enough c = c.well_formed.0.1.1.1.1.1.1.1.1.1.1.1.1.1.1.1.1.1.0.1.0.1

pub overflow_cast-n : goal.overflow_cast-n
overflow_cast-n c =
    let s = c.args.s in
    let e : c.weight_count-n.result ≡ weight_count (sheet_grid s) = c.weight_count-n.ensures.0 ∙ ap weight_count c.grid_of-g.ensures in
    omega (arith, c.requires.weights_most)

pub returns : goal.returns
returns c =
    weight_steps c.args.s c.requires (long_enough c) _ c.grid_of-g.ensures c.weight_count-n.ensures.0 c.write_sequence-b.ensures
    c.reversed.ensures c.weights_from.ensures.0 c.clipped_weight_bits.ensures.0 c.part.ensures
