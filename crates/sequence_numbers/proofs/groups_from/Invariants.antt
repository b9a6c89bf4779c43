use Prim.Native.Nat.{◌-◌}
use Rattle.bits.specs.Block.{block_number}
use Rattle.sequence_numbers.proofs.Alone.{Got}
use Rattle.sequence_numbers.proofs.groups_from.Given as goal

abbrev pub invariant-loop-have : goal.invariant-loop-have
invariant-loop-have g l = Got g.G.Group.form l.b (block_number l.s) l.first l.p l.out l.have

abbrev pub decreases-loop-have : goal.decreases-loop-have
decreases-loop-have g l = l.n - l.have
