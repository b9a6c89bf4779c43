use native.Mathlib.Omega.{arith}
use Rattle.bits.specs.Field.{stream}
use Rattle.integer_sequence.specs.inner.Entries.{group_numbers}
use Rattle.integer_sequence.proofs.Groups.{narrow_bits, number_bits}
use Rattle.integer_sequence.proofs.group.OneNumberGroup.numbers.Goals as goal

pub cut-requires : goal.cut-requires
cut-requires c = (omega arith, narrow_bits _ c.requires)

pub returns : goal.returns
unfolding group_numbers stream
returns c = omega (arith, number_bits c.args.b c.args.g c.cut.ensures.0)
