use Rattle.laws.proofs.Filling.{Filling}
use Rattle.weight_grid.specs.declared.PointPair.{PointPair}
use Rattle.weight_grid.specs.inner.Pairs.{pair_at}
use Rattle.weight_grid.proofs.pairs.Given as goal

abbrev pub no_pair : PointPair
no_pair = record { 0 = 0 }

abbrev pub invariant-loop-i : goal.invariant-loop-i
invariant-loop-i l = Filling (pair_at l.points) no_pair 64 l.out l.i
