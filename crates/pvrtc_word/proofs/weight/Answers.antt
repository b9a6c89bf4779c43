use mathlib.Core.Path.{◌≡◌, refl, ap, ◌∙◌}
use native.Mathlib.Omega.{arith}
use borrow.Author.Rules.{rules}
use Rattle.pvrtc_texel.specs.Word.{code_weight}
use Rattle.pvrtc_word.proofs.Texels.{punched_weight, plain_weight}
use Rattle.pvrtc_word.proofs.weight.Goals as goal

pub returns-then-punch : goal.returns-then-punch
returns-then-punch c = (punched_weight c.args.m c.requires ∙ rw c.if-punch.true, omega arith)

pub returns : goal.returns
returns c = (plain_weight c.args.m c.requires ∙ rw c.if-punch.false, omega arith)
