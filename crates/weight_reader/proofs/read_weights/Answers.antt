use mathlib.Core.Path.{◌∙◌}
use native.Mathlib.Omega.{arith}
use Rattle.integer_sequence.specs.Reading.{sequence_at}
use Rattle.integer_sequence.proofs.Ranged.{bits_small}
use Rattle.weight_reader.proofs.Weights.{few_weights, by_range}
use Rattle.weight_reader.proofs.read_weights.Goals as goal

pub overflow_cast-w : goal.overflow_cast-w
overflow_cast-w c = omega (arith, c.sequence_bits-w.ensures, bits_small c.encoding_at-e.result c.bits_at-b.result c.args.n (omega arith) (omega arith))

pub read_by-requires : goal.read_by-requires
read_by-requires c =
    let e = c.before.before.before.before.before in
    (rw (c.bits_at-b.ensures, e.encoding_at-e.ensures) (few_weights e.args.range (omega arith)), omega arith)

pub returns : goal.returns
unfolding sequence_at
returns c =
    let p = c.before.before in
    let t = p.before in
    let e = t.before.before.before in
    c.read_by.ensures
    ∙ rw (p.part.ensures, t.sequence_bits-w.ensures, t.bits_at-b.ensures, e.encoding_at-e.ensures)
    (by_range e.args.range _ e.args.n (omega arith) t.weight_table-table.ensures)
