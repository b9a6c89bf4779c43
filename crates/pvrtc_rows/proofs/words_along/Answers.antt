use mathlib.Core.Path.{◌∙◌}
use native.Mathlib.Omega.{arith}
use borrow.Author.Rules.{rules}
use Rattle.pvrtc_rows.proofs.Words.{along}
use Rattle.pvrtc_rows.proofs.words_along.Goals as goal

pub returns : goal.returns
returns c = let l = along c.args.bits c.requires in (l.0, rw l.0 l.1, rw l.0 l.2)
