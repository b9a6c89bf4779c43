use Rattle.laws.proofs.Filling.{Filling}
use Rattle.bc7_block.specs.Fields.{value_in}
use Rattle.bc7_codec.proofs.fields_of.Given as goal

abbrev pub invariant-loop-k : goal.invariant-loop-k
invariant-loop-k l = Filling (value_in l.s) 0 60 l.f l.k
