use mathlib.Core.Path.{◌∙◌}
use native.Mathlib.Omega.{arith}
use Rattle.image_layout.proofs.Parts.{placing_none, placing_more, placing_all}
use Rattle.bc7_image.proofs.Tiles.{run_fits_64}
use Rattle.bc7_image.proofs.place.Goals as goal

pub loop-dy-init : goal.loop-dy-init
loop-dy-init c = placing_none _ _ _ _ _

pub run_of-requires : goal.run_of-requires
run_of-requires c = let p = c.requires in record { sound_grid = p.sound_grid; part_fits = p.part_fits; dy_lt_rows = c.loop-dy-test.true }

pub copy_run-requires : goal.copy_run-requires
copy_run-requires c = let t = c in let p = t.requires in run_fits_64 _ _ _ _ _ p.sound_grid p.footprint_value p.part_fits t.loop-dy-test.true c.run_of.ensures (t.loop-dy.invariant.same ∙ p.out_len)

pub loop-dy-preserved : goal.loop-dy-preserved
loop-dy-preserved c = let k = c in let t = k in placing_more (λ n. n) _ _ _ _ _ t.requires.part_fits t.loop-dy-test.true k.run_of.ensures k.copy_run.auto.out t.loop-dy.invariant k.copy_run.ensures

pub shape_of-out : goal.shape_of-out
shape_of-out c = c.loop-dy.invariant.same

pub returns : goal.returns
returns c = placing_all (λ n. n) _ _ _ _ (omega arith) c.loop-dy.invariant
