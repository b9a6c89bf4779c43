use mathlib.Core.Path.{◌∙◌}
use native.Mathlib.Omega.{arith}
use Rattle.bc7_ends.proofs.Mixing.{alpha_still, alpha_red, alpha_green, alpha_blue}
use Rattle.bc7_ends.proofs.alpha_lanes.Goals as goal

pub returns-then-r-eq0 : goal.returns-then-r-eq0
returns-then-r-eq0 c = (c.pack.ensures.0 ∙ alpha_still _ _ c.if-r-eq0.true, c.pack.ensures.1)

pub returns-then-r-eq1 : goal.returns-then-r-eq1
returns-then-r-eq1 c = (c.pack-then-r-eq1.ensures.0 ∙ alpha_red _ _ c.if-r-eq1.true, c.pack-then-r-eq1.ensures.1)

pub returns-then-r-eq2 : goal.returns-then-r-eq2
returns-then-r-eq2 c = (c.pack-then-r-eq2.ensures.0 ∙ alpha_green _ _ c.if-r-eq2.true, c.pack-then-r-eq2.ensures.1)

pub returns : goal.returns
returns c = (c.pack-2.ensures.0 ∙ alpha_blue _ _ (omega (arith, c.if-r-eq2.false, c.if-r-eq1.false, c.if-r-eq0.false)), c.pack-2.ensures.1)
