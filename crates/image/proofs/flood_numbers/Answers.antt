use mathlib.Core.Path.{◌∙◌}
use Prim.Native.Nat.{◌-◌}
use native.Mathlib.Omega.{arith}
use lib.ListN.{length}
use Rattle.interpolation.specs.declared.Kind.TheVariants.{Unorm16}
use Rattle.interpolation.specs.Expansion.{shown_of}
use Rattle.image_layout.specs.inner.Parts.{RunFits}
use Rattle.image_layout.proofs.Parts.{run_fits, placing_none, placing_all}
use Rattle.image.proofs.Uniform.{row_filled}
use Rattle.image.proofs.flood_numbers.Goals as goal
use Rattle.image.proofs.flood_numbers.Goals.{After-fill_numbers-arg-1, After-slice_known-in-loop-dy-1}

-- the run lies within the image
fits-After-fill_numbers-arg-1 : (c : After-fill_numbers-arg-1) → RunFits c.run_of-r.result 864 (length c.loop-dy.out)
fits-After-fill_numbers-arg-1 c = let t = c in let p = t.requires in run_fits _ _ _ _ _ p.sound_grid p.part_fits t.loop-dy-test.true c.run_of-r.ensures (t.loop-dy.invariant.same ∙ p.out_len)

-- the run lies within the image
fits-After-slice_known-in-loop-dy-1 : (c : After-slice_known-in-loop-dy-1) → RunFits c.run_of-r.result 864 (length c.loop-dy.out)
fits-After-slice_known-in-loop-dy-1 c = let t = c in let p = t.requires in run_fits _ _ _ _ _ p.sound_grid p.part_fits t.loop-dy-test.true c.run_of-r.ensures (t.loop-dy.invariant.same ∙ p.out_len)

pub loop-dy-init : goal.loop-dy-init
loop-dy-init c = placing_none _ _ _ _ _

pub run_of-r-requires : goal.run_of-r-requires
run_of-r-requires c = let p = c.requires in record { sound_grid = p.sound_grid; part_fits = p.part_fits; dy_lt_rows = c.loop-dy-test.true }

pub fill_numbers-requires : goal.fill_numbers-requires
fill_numbers-requires c = let p = c.requires in (omega (arith, p.sound_grid.columns_most, p.part_fits.columns.in_block), omega (arith, fits-After-fill_numbers-arg-1 c, c.run_of-r.ensures.n))

pub loop-dy-preserved : goal.loop-dy-preserved
loop-dy-preserved c = let k = c in let r = k in let t = r in row_filled (shown_of Unorm16) _ _ _ _ _ _ t.requires.part_fits t.loop-dy-test.true r.run_of-r.ensures (fits-After-slice_known-in-loop-dy-1 c) k.fill_numbers.auto.out t.loop-dy.invariant k.fill_numbers.ensures

pub shape_of-out : goal.shape_of-out
shape_of-out c = c.loop-dy.invariant.same

pub returns : goal.returns
returns c = placing_all (shown_of Unorm16) _ _ _ _ (omega arith) c.loop-dy.invariant
