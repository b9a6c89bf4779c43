use Prim.Native.Nat.{◌+◌}
use lib.ListN.{get_or}
use Rattle.laws.proofs.Filling.{Filling}
use Rattle.bc7_codec.proofs.run_of.Given as goal

abbrev pub invariant-loop-j : goal.invariant-loop-j
invariant-loop-j g l = Filling (λ i. get_or l.f (l.from + i) 0) 0 g.row.N l.xs l.j
