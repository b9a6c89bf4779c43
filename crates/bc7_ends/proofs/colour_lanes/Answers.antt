use mathlib.Core.Path.{◌∙◌}
use native.Mathlib.Omega.{arith}
use Rattle.bc7_ends.proofs.Mixing.{lanes_still, lanes_red, lanes_green, lanes_blue}
use Rattle.bc7_ends.proofs.colour_lanes.Goals as goal

pub returns-then-r-eq0 : goal.returns-then-r-eq0
returns-then-r-eq0 c = (c.pack.ensures.0 ∙ lanes_still _ _ _ _ c.if-r-eq0.true, c.pack.ensures.1)

pub returns-then-r-eq1 : goal.returns-then-r-eq1
returns-then-r-eq1 c = (c.pack-then-r-eq1.ensures.0 ∙ lanes_red _ _ _ _ c.if-r-eq1.true, c.pack-then-r-eq1.ensures.1)

pub returns-then-r-eq2 : goal.returns-then-r-eq2
returns-then-r-eq2 c = (c.pack-then-r-eq2.ensures.0 ∙ lanes_green _ _ _ _ c.if-r-eq2.true, c.pack-then-r-eq2.ensures.1)

pub returns : goal.returns
returns c = (c.pack-2.ensures.0 ∙ lanes_blue _ _ _ _ (omega (arith, c.if-r-eq2.false, c.if-r-eq1.false, c.if-r-eq0.false)), c.pack-2.ensures.1)
