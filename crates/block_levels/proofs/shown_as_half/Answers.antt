use mathlib.Core.Path.{◌≡◌, refl, ◌∙◌}
use mathlib.Core.Bool.{Bool, true, false}
use Rattle.interpolation.specs.Expansion.{takes_hdr}
use Rattle.laws.specs.Choice.{both}
use Rattle.block_levels.proofs.shown_as_half.Goals as goal

neither : (b : Bool) → false ≡ both b false
neither true = refl
neither false = refl

alone : (b : Bool) → b ≡ both b true
alone true = refl
alone false = refl

pub returns-then-hdr : goal.returns-then-hdr
returns-then-hdr c = rw c.if-hdr.true (neither (takes_hdr c.args.kind))

pub returns-else-hdr : goal.returns-else-hdr
returns-else-hdr c = rw c.if-hdr.false (c.takes_hdr.ensures ∙ alone (takes_hdr c.args.kind))
