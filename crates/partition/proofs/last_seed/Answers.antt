-- `partition::last_seed` meets its contract. Assumes nothing.
use Rattle.std.proofs.Common.{◌+◌, ◌*◌, ◌/◌, ◌%◌, ◌^◌, ◌≤◌, refl, le_trans, mul-le-mul, div-le_self, arith}
use Rattle.partition.specs.Select.{last_seed_of}
use Rattle.partition.proofs.last_seed.Goals as goal
use Rattle.partition.proofs.last_seed.Goals.{Start}

-- four bits, squared
fits : (c : Start) → (c.args.rnum % 4 * 4 + c.args.rnum / 2 ^ 30) * (c.args.rnum % 4 * 4 + c.args.rnum / 2 ^ 30) ≤ 225
fits c = mul-le-mul {n₂ = 15} {m₂ = 15} (omega arith) (omega arith)

pub overflow_mul-result : goal.overflow_mul-result
overflow_mul-result c = omega (arith, fits c)

pub returns : goal.returns
unfolding last_seed_of
returns c = (refl, le_trans (div-le_self _ _) (fits c))
