-- `half_pair::mode_14` meets its contract.
use native.Mathlib.Omega.{arith}
use Rattle.half_pair.specs.Pair.{mode14}
use Rattle.half_pair.proofs.mode_14.Goals as goal

pub returns : goal.returns
unfolding mode14
returns c =
    let e = c.rgb.ensures in
    let w0 = c.wide-a0.ensures in
    let w1 = c.wide-a1.ensures in
    (rw (e.0, w0.0, w1.0), e.1, omega (arith, e.2, w0.1), omega (arith, e.3, w1.1))
