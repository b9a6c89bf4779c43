use mathlib.Core.Path.{refl}
use Rattle.bits.specs.Field.{stream}
use Rattle.integer_sequence.specs.Codes.{digit}
use Rattle.integer_sequence.specs.inner.Entries.{digits_entry}
use Rattle.integer_sequence.proofs.group.OneNumberGroup.digits.Goals as goal

pub returns : goal.returns
unfolding digits_entry stream digit
returns c = refl
