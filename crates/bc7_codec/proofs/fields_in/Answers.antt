use mathlib.Core.Path.{refl, ◌∙◌}
use native.Mathlib.Omega.{arith}
use Rattle.laws.proofs.Filling.{filling_start, filling_more, filling_done}
use Rattle.bc7_layout.proofs.Tables.{width_most}
use Rattle.bc7_codec.proofs.Steps.{place_start, next_place, place_bound}
use Rattle.bc7_codec.proofs.fields_in.Goals as goal

pub loop-k-init : goal.loop-k-init
loop-k-init c = (place_start _ _, filling_start _ 0 60 _ refl)

pub small_field-requires : goal.small_field-requires
small_field-requires c = rw c.width_of-w.ensures.0 (width_most _ _ _ c.requires.0)

pub overflow_add-at : goal.overflow_add-at
overflow_add-at c = omega (arith, c.width_of-w.ensures.1, c.loop-k.invariant.0, place_bound c.args.m c.args.p c.loop-k.k c.requires.0)

pub loop-k-preserved : goal.loop-k-preserved
loop-k-preserved c = (next_place _ _ _ _ _ c.loop-k.invariant.0 c.width_of-w.ensures.0, filling_more _ 0 60 _ _ _ (omega arith) c.loop-k.invariant.1 (c.small_field.ensures ∙ rw (c.loop-k.invariant.0, c.width_of-w.ensures.0)))

pub returns : goal.returns
returns c = filling_done _ 0 60 _ _ (omega arith) c.loop-k.invariant.1
