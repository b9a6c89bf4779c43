-- `partition::seed_of` meets its contract. Assumes nothing.
use Rattle.std.proofs.Common.{◌/◌, ◌^◌, refl, le_trans, div-le_self, arith}
use Rattle.partition.specs.Select.{seed_of}
use Rattle.partition.proofs.Laws.{square}
use Rattle.partition.proofs.seed_of.Goals as goal

pub overflow_mul-result : goal.overflow_mul-result
overflow_mul-result c = omega (arith, square (c.args.rnum / 2 ^ c.args.k))

pub returns : goal.returns
unfolding seed_of
returns c = (refl, le_trans (div-le_self _ _) (square _))
