use Prim.Native.Nat.{◌+◌}
use lib.ListN.{get_or}
use Rattle.laws.proofs.Filling.{Filling}
use Rattle.bc7_image.proofs.row_from.Given as goal

abbrev pub invariant-loop-i : goal.invariant-loop-i
invariant-loop-i l = Filling (λ k. get_or l.src (l.from + k) 0) 0 16 l.row l.i
