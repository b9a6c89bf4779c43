use native.Mathlib.Omega.{arith}
use Rattle.encoding.specs.declared.Encoding.TheVariants.{Trits}
use Rattle.integer_sequence.proofs.CodeTables.{entry_cut, trits_right}
use Rattle.integer_sequence.proofs.tables.trit_digits.Goals as goal

pub returns : goal.returns
returns c = entry_cut Trits 2 12935430915 256 c.args.code trits_right (omega arith) c.trit_word.ensures
