use Rattle.block_store.specs.inner.Places.{Put}
use Rattle.block_store.proofs.put.Given as goal

abbrev pub invariant-loop-k : goal.invariant-loop-k
invariant-loop-k l = Put l.at l.k l.bytes l.initial.out l.out
