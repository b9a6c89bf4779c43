use Rattle.laws.proofs.Filling.{Filling}
use Rattle.partition.specs.inner.Seeds.{select_by}
use Rattle.partition.proofs.partition_row.Given as goal

abbrev pub invariant-loop-x : goal.invariant-loop-x
invariant-loop-x l = Filling (λ k. select_by l.s k l.y) 0 16 l.out l.x
