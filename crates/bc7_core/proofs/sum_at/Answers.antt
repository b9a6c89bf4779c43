use Rattle.laws.specs.inner.Filled.{Filled}
use Rattle.bc7_core.proofs.Painting.{subset_here, subset_small, line_small, shows}
use Rattle.bc7_core.proofs.sum_at.Goals as goal

-- src/lib.rt:200:13
pub bounds-lines-subset_in : goal.bounds-lines-subset_in
bounds-lines-subset_in c = let p = c.requires in subset_small _ _ p.framed.0.known p.framed.0.plan _ p.framed.1 _ c.subset_in.ensures.0

-- src/lib.rt:201:5
pub sum_on-requires : goal.sum_on-requires
unfolding Filled
sum_on-requires c =
    let p = c.requires in
    let j = c.subset_in.ensures.0 in
    (line_small _ _ p.framed.0.known p.framed.0.plan _ p.framed.1 _ j _ (p.filled _ (subset_here _ _ p.framed.0.known p.framed.0.plan _ p.framed.1 _ j)), p.colour_value.1, p.alpha_value.1)

-- src/lib.rt:186:1
pub returns : goal.returns
unfolding Filled
returns c =
    let p = c.requires in
    let j = c.subset_in.ensures.0 in
    shows _ _ p.framed.0.known p.framed.0.plan _ p.framed.1 _ j _ (p.filled _ (subset_here _ _ p.framed.0.known p.framed.0.plan _ p.framed.1 _ j)) _ _ _
    p.colour_value.0 p.alpha_value.0 p.colour_value.1 p.alpha_value.1 c.sum_on.ensures
