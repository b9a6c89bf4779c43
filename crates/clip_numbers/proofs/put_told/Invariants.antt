use lib.ListN.{get_or}
use Rattle.laws.proofs.Filling.{Filling}
use Rattle.clip_numbers.proofs.put_told.Given as goal

abbrev pub invariant-loop-i : goal.invariant-loop-i
invariant-loop-i l = Filling (λ k. get_or l.from k 0) 0 8 l.told l.i
