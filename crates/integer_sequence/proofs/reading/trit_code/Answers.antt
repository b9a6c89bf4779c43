use mathlib.Core.Path.{refl}
use Rattle.integer_sequence.proofs.Groups.{trit_code_lem}
use Rattle.integer_sequence.proofs.reading.trit_code.Goals as goal

pub returns : goal.returns
returns c = trit_code_lem c.args.b c.args.g refl refl refl refl refl
