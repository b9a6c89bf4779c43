use mathlib.Core.Path.{refl}
use native.Mathlib.Omega.{arith}
use Rattle.integer_sequence.proofs.Groups.{quint_code_lem}
use Rattle.integer_sequence.proofs.reading.quint_code.Goals as goal

pub returns : goal.returns
returns c = (quint_code_lem c.args.b c.args.g refl refl refl, omega arith)
