use native.Mathlib.Omega.{arith}
use Rattle.encoding.specs.declared.Encoding.TheVariants.{Quints}
use Rattle.integer_sequence.proofs.CodeTables.{entry_cut, quints_right}
use Rattle.integer_sequence.proofs.tables.quint_digits.Goals as goal

pub returns : goal.returns
returns c = entry_cut Quints 12 460551 128 c.args.code quints_right (omega arith) c.quint_word.ensures
