use mathlib.Core.Path.{refl}
use Rattle.line_text.proofs.Laws.{puts_byte}
use Rattle.line_text.proofs.put_byte.Goals as goal

pub returns : goal.returns
returns c = record { value = refl; puts = puts_byte c.args.out.now c.args.at c.args.b c.requires }
