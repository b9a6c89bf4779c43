use native.Mathlib.Omega.{arith}
use Rattle.partition_texel.proofs.Partition.{range_small, cut_out, levels_read}
use Rattle.partition_texel.proofs.own_levels.Goals as goal

pub overflow_cast-w : goal.overflow_cast-w
overflow_cast-w c = omega (arith, c.range_bits-w.ensures, range_small c.args.range c.args.n (omega arith))

pub returns : goal.returns
returns c =
    let q = c.before.before in
    let s = q.before.before in
    let a = s.args in
    levels_read a.range _ a.start a.count (cut_out a.range a.n _ a.from q.range_bits-w.ensures q.part-s.ensures) c.numbers_from.ensures c.levels_in.ensures
