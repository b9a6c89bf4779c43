use native.Mathlib.Omega.{arith}
use Rattle.volume_layout.proofs.Parts.{Begins, begins}
use Rattle.volume_parts.proofs.part_of.Goals as goal
use Rattle.volume_parts.proofs.part_of.Goals.{After-struct_known-7-1, Start}

-- where block b begins
facts : (c : Start) → Begins c.args.g c.args.b
facts c = begins c.args.g c.args.b c.requires.sound_grid c.requires.b_bound

-- at the last step that reads the layout
last : (c : After-struct_known-7-1) → let s = c.before.before.before.before.before.before.before in Begins s.args.g s.args.b
last c = facts c.before.before.before.before.before.before.before

pub overflow_mul-x : goal.overflow_mul-x
overflow_mul-x c = omega (arith, (facts c.before.before.before).x)

pub overflow_mul-y : goal.overflow_mul-y
overflow_mul-y c = omega (arith, (facts c.before.before.before.before.before).y)

pub overflow_mul-z : goal.overflow_mul-z
overflow_mul-z c = omega (arith, (last c).z)

pub crop-columns-requires : goal.crop-columns-requires
crop-columns-requires c = (last c).x

pub crop-rows-requires : goal.crop-rows-requires
crop-rows-requires c = (last c.before).y

pub crop-layers-requires : goal.crop-layers-requires
crop-layers-requires c = omega (arith, (last c.before.before).z, c.requires.sound_grid.depth_most)
