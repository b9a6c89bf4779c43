use native.Mathlib.Omega.{arith}
use Rattle.image_layout.proofs.Parts.{Begins, begins}
use Rattle.image_parts.proofs.part_of.Goals as goal
use Rattle.image_parts.proofs.part_of.Goals.{Start}

-- where block b begins
facts : (c : Start) → Begins c.args.g c.args.b
facts c = begins c.args.g c.args.b c.requires.sound_grid c.requires.b_bound

pub overflow_mul-x : goal.overflow_mul-x
overflow_mul-x c = let f = facts c.before.before in omega (arith, f.x)

pub overflow_mul-y : goal.overflow_mul-y
overflow_mul-y c = let f = facts c.before.before.before.before in omega (arith, f.y)

pub crop-columns-requires : goal.crop-columns-requires
crop-columns-requires c = let f = facts c.before.before.before.before in f.x

pub crop-rows-requires : goal.crop-rows-requires
crop-rows-requires c = let f = facts c.before.before.before.before.before in f.y
