use mathlib.Core.Path.{◌≡◌}
use Prim.Native.Nat.{◌+◌, ◌-◌, ◌%◌, ◌^◌, ◌≤◌}
use lib.ListN.{take}
use Rattle.bits.specs.Block.{block_number}
use Rattle.encoding.specs.declared.Encoding.TheVariants.{Bits}
use Rattle.encoding.specs.Encoding.{sequence_bits}
use Rattle.integer_sequence.specs.Writing.{values}
use Rattle.sequence_writer.proofs.Growing.{so_far}
use Rattle.sequence_writer.proofs.write_bits.Given as goal

abbrev pub invariant-loop-i : goal.invariant-loop-i
invariant-loop-i l =
    (l.i ≤ l.n) × (l.at ≡ l.from + sequence_bits Bits l.b l.i) × (block_number l.out ≡ so_far Bits l.b (take l.n (values l.xs)) l.from (block_number l.initial.out) l.i % 2 ^ 128)

abbrev pub decreases-loop-i : goal.decreases-loop-i
decreases-loop-i l = l.n - l.i
