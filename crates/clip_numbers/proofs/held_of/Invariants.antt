use Rattle.std.proofs.Common.{◌+◌, ◌%◌, get_or}
use Rattle.laws.proofs.Filling.{Filling}
use Rattle.clip_numbers.proofs.held_of.Given as goal

abbrev pub invariant-loop-k : goal.invariant-loop-k
invariant-loop-k l = Filling (λ i. get_or l.state (10 + i) 0 % 256) 0 16 l.held l.k
