use mathlib.Core.Path.{◌≡◌}
use native.Mathlib.Omega.{arith}
use Rattle.laws.proofs.Filling.{filling_start, filling_more, filling_done}
use Rattle.weight_grid.proofs.factor_pairs.Goals as goal

pub loop-x-preserved : goal.loop-x-preserved
loop-x-preserved c =
    let q = c.before.before.before in
    let l = q.loop-x in (
      λ e. filling_more _ 0 16 _ l.x _ q.loop-x-test.true (l.invariant.0 e) c.upper_pair.ensures,
      λ e. filling_more _ 0 16 _ l.x _ q.loop-x-test.true (l.invariant.1 e) c.lower_pair-below.ensures,
    )

pub loop-x-init : goal.loop-x-init
loop-x-init c = (λ e. filling_start _ 0 16 _ e, λ e. filling_start _ 0 16 _ e)

pub returns : goal.returns
returns c = let l = c.loop-x in
    let z : l.x ≡ 16 = omega (arith, c.loop-x-test.false) in record { upper_after = λ e. filling_done _ 0 16 _ l.x z (l.invariant.0 e); lower_after = λ e. filling_done _ 0 16 _ l.x z (l.invariant.1 e) }
