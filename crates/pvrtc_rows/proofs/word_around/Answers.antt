use mathlib.Core.Path.{refl}
use native.Mathlib.Omega.{arith}
use borrow.Author.Rules.{rules}
use Rattle.pvrtc_rows.specs.inner.Rows.{around}
use Rattle.pvrtc_rows.proofs.Rows.{around_lt}
use Rattle.pvrtc_rows.proofs.word_around.Goals as goal

pub returns : goal.returns
unfolding around
returns c = (refl, around_lt c.args.n c.args.i c.requires.0)
