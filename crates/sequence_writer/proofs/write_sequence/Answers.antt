use mathlib.Core.Path.{◌∙◌}
use native.Mathlib.Omega.{arith}
use Rattle.quantization.proofs.Ranges.{bits_le}
use Rattle.sequence_writer.proofs.Growing.{values_cap}
use borrow.Author.Rules.{rules}
use Rattle.sequence_writer.proofs.write_sequence.Goals as goal

pub write-requires : goal.write-requires
write-requires c =
    (omega (arith, c.smaller.ensures), omega arith, rw c.bits_at-b.ensures (bits_le c.args.range))

pub returns : goal.returns
returns c =
    let a = c.args in
    c.write.ensures ∙ rw (c.smaller.ensures, c.bits_at-b.ensures, c.encoding_at-e.ensures, values_cap a.xs a.n (search rules))
