use Prim.Native.Nat.{◌-◌}
use Rattle.interpolation.specs.declared.Kind.TheVariants.{Unorm16}
use Rattle.interpolation.specs.Expansion.{shown_of}
use Rattle.volume.proofs.Placing.{no_layers, no_rows, row_fits, row_more, layer_more, all_layers}
use Rattle.volume.proofs.place_numbers.Goals as goal

pub loop-dz-init : goal.loop-dz-init
loop-dz-init c = no_layers _ _ _ _ _

pub loop-dy-init : goal.loop-dy-init
loop-dy-init c = no_rows _ _ _ _ _ _

pub run_of-requires : goal.run_of-requires
run_of-requires c = let p = c.requires in record { sound_grid = p.sound_grid; part_fits = p.part_fits; dy_lt_rows = (c.loop-dy-test.true, c.loop-dz-test.true) }

pub copy_numbers-requires : goal.copy_numbers-requires
copy_numbers-requires c = let i = c in let p = c.requires in row_fits (shown_of Unorm16) _ _ _ _ p.sound_grid p.part_fits p.out_len i.loop-dz-test.true i.loop-dy-test.true i.loop-dz.invariant i.loop-dy.invariant c.run_of.ensures

pub loop-dy-preserved : goal.loop-dy-preserved
loop-dy-preserved c = let k = c in let i = k in row_more (shown_of Unorm16) _ _ _ _ c.requires.part_fits i.loop-dy-test.true i.loop-dy.invariant k.run_of.ensures k.copy_numbers.auto.out k.copy_numbers.ensures

pub loop-dz-preserved : goal.loop-dz-preserved
loop-dz-preserved c = layer_more (shown_of Unorm16) _ _ _ c.loop-dz-test.true c.loop-dz.invariant c.loop-dy-test.false c.loop-dy.invariant

pub shape_of-out : goal.shape_of-out
shape_of-out c = c.loop-dz.invariant.same

pub returns : goal.returns
returns c = all_layers (shown_of Unorm16) _ _ _ c.loop-dz-test.false c.loop-dz.invariant
