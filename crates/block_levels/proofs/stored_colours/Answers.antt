use native.Mathlib.Omega.{arith}
use Rattle.void_extent.specs.Layout.{colour_at}
use Rattle.block_fault.proofs.Laws.{narrow}
use Rattle.block_levels.specs.inner.Lines.{colours_of}
use Rattle.block_levels.proofs.stored_colours.Goals as goal

pub overflow_cast-r : goal.overflow_cast-r
overflow_cast-r c = omega (arith, (narrow _ _ 16 16 (omega arith) (omega arith) c.field_at-r.ensures).below)

pub overflow_cast-g : goal.overflow_cast-g
overflow_cast-g c = omega (arith, (narrow _ _ 16 16 (omega arith) (omega arith) c.field_at-g.ensures).below)

pub overflow_cast-b : goal.overflow_cast-b
overflow_cast-b c = omega (arith, (narrow _ _ 16 16 (omega arith) (omega arith) c.field_at-b.ensures).below)

pub overflow_cast-a : goal.overflow_cast-a
overflow_cast-a c = omega (arith, (narrow _ _ 16 16 (omega arith) (omega arith) c.field_at-a.ensures).below)

pub returns : goal.returns
unfolding colours_of colour_at
returns c = rw (c.field_at-r.ensures, c.field_at-g.ensures, c.field_at-b.ensures, c.field_at-a.ensures)
