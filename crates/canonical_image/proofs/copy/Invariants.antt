use lib.ListN.{length, get_or}
use Rattle.laws.proofs.Filling.{Filling}
use Rattle.canonical_image.proofs.copy.Given as goal

abbrev pub invariant-loop-k : goal.invariant-loop-k
invariant-loop-k l = Filling (λ j. get_or l.from j 0) 0 (length l.initial.out) l.out l.k
