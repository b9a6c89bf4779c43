use native.Mathlib.Omega.{arith}
use Rattle.volume_layout.proofs.Parts.{Products, products}
use Rattle.volume_parts.proofs.run_of.Goals as goal
use Rattle.volume_parts.proofs.run_of.Goals.{Start}

facts : (c : Start) → Products c.args.g c.args.p c.args.dy c.args.dz
facts c = products c.args.g c.args.p c.args.dy c.args.dz c.requires.sound_grid c.requires.part_fits c.requires.dy_lt_rows.0 c.requires.dy_lt_rows.1

pub overflow_mul-result : goal.overflow_mul-result
overflow_mul-result c = omega (arith, facts c)

pub overflow_add-result : goal.overflow_add-result
overflow_add-result c = omega (arith, facts c)

pub overflow_mul-result-2 : goal.overflow_mul-result-2
overflow_mul-result-2 c = omega (arith, facts c)

pub overflow_mul-result-3 : goal.overflow_mul-result-3
overflow_mul-result-3 c = omega (arith, facts c)

pub overflow_mul-result-4 : goal.overflow_mul-result-4
overflow_mul-result-4 c = omega (arith, facts c)

pub overflow_add-result-4 : goal.overflow_add-result-4
overflow_add-result-4 c = omega (arith, facts c)

pub overflow_mul-result-5 : goal.overflow_mul-result-5
overflow_mul-result-5 c = omega (arith, facts c)

pub overflow_add-result-5 : goal.overflow_add-result-5
overflow_add-result-5 c = omega (arith, facts c)

pub overflow_mul-result-6 : goal.overflow_mul-result-6
overflow_mul-result-6 c = omega (arith, facts c)
