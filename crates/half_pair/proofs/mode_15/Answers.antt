-- `half_pair::mode_15` meets its contract.
use Rattle.half_pair.specs.Pair.{mode15}
use Rattle.half_pair.proofs.mode_15.Goals as goal

pub returns : goal.returns
unfolding mode15
returns c =
    let e = c.rgb.ensures in
    (rw (e.0, c.alphas-a.ensures.0), e.1)
