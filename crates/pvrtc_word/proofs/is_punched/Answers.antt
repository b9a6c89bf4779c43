use mathlib.Core.Path.{refl}
use borrow.Author.Rules.{rules}
use Rattle.pvrtc_word.proofs.is_punched.Goals as goal

pub returns-then-punch : goal.returns-then-punch
returns-then-punch c = rw c.if-punch.true
