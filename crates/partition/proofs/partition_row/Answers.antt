use Rattle.std.proofs.Common.{refl, ◌∙◌, arith}
use Rattle.laws.proofs.Filling.{filling_start, filling_more, filling_done, tab_ext}
use Rattle.partition.proofs.partition_row.Goals as goal

pub loop-x-init : goal.loop-x-init
loop-x-init c = filling_start _ 0 16 _ refl

pub offset_bounds-out-x : goal.offset_bounds-out-x
offset_bounds-out-x c = omega (arith, c.loop-x-test.true)

pub bounds-out-x : goal.bounds-out-x
bounds-out-x c = c.loop-x-test.true

pub loop-x-preserved : goal.loop-x-preserved
loop-x-preserved c =
    let l = c.loop-x in
    filling_more _ 0 16 l.out l.x _ c.loop-x-test.true l.invariant c.partition_at.ensures.value

pub returns : goal.returns
returns c = let l = c.loop-x in
    let e = filling_done _ 0 16 l.out l.x (omega (arith, c.loop-x-test.false)) l.invariant in record { value = e; by_index = λ index count small h. e ∙ tab_ext _ _ 0 16 (λ x m. h.everywhere x _) }
