use native.Mathlib.Omega.{arith}
use Rattle.image_layout.proofs.Parts.{Products, products}
use Rattle.image_parts.proofs.run_of.Goals as goal
use Rattle.image_parts.proofs.run_of.Goals.{Start}

facts : (c : Start) → Products c.args.g c.args.p c.args.dy
facts c = products c.args.g c.args.p c.args.dy c.requires.sound_grid c.requires.part_fits c.requires.dy_lt_rows

pub overflow_mul-result : goal.overflow_mul-result
overflow_mul-result c = omega (arith, facts c)

pub overflow_mul-result-2 : goal.overflow_mul-result-2
overflow_mul-result-2 c = omega (arith, facts c)

pub overflow_mul-result-3 : goal.overflow_mul-result-3
overflow_mul-result-3 c = omega (arith, facts c)

pub overflow_add-result-2 : goal.overflow_add-result-2
overflow_add-result-2 c = omega (arith, facts c)

pub overflow_mul-result-4 : goal.overflow_mul-result-4
overflow_mul-result-4 c = omega (arith, facts c)
