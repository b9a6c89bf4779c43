use Rattle.laws.proofs.Filling.{Filling}
use Rattle.bc7_codec.specs.Numbers.{sheet_number}
use Rattle.bc7_numbers.proofs.put.Given as goal

abbrev pub invariant-loop-k : goal.invariant-loop-k
invariant-loop-k l = Filling (sheet_number l.s) 0 60 l.numbers l.k
