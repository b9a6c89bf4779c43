use Prim.Native.Nat.{◌-◌}
use Rattle.bits.specs.Block.{block_number}
use Rattle.encoding.specs.declared.Encoding.TheVariants.{Trits}
use Rattle.sequence_writer.proofs.Growing.{Grown}
use Rattle.sequence_writer.proofs.write_trits.Given as goal

abbrev pub invariant-loop-i : goal.invariant-loop-i
invariant-loop-i l = Grown Trits l.b l.n l.from l.xs (block_number l.initial.out) (block_number l.out) l.at l.i

abbrev pub decreases-loop-i : goal.decreases-loop-i
decreases-loop-i l = l.n - l.i
