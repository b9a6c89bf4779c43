use mathlib.Core.Path.{◌≡◌}
use Prim.Native.Nat.{◌+◌, ◌%◌, ◌^◌}
use lib.ListN.{get_or}
use Rattle.bits.specs.Field.{stream}
use Rattle.encoding.specs.declared.Encoding.TheVariants.{Bits}
use Rattle.encoding.specs.Encoding.{sequence_bits}
use Rattle.integer_sequence.specs.Writing.{values}
use Rattle.sequence_words.proofs.bits_word.Given as goal

abbrev pub invariant-loop-k : goal.invariant-loop-k
invariant-loop-k l = (l.p ≡ sequence_bits Bits l.b l.k) × (l.word ≡ stream (sequence_bits Bits l.b) (λ j. get_or (values l.xs) (l.i + j) 0 % 2 ^ l.b) l.k)
