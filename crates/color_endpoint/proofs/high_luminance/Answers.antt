-- `color_endpoint::high_luminance` meets its contract.
use native.Mathlib.Omega.{arith}
use Rattle.color_endpoint.specs.Modes.{high_luminance}
use Rattle.color_endpoint.proofs.high_luminance.Goals as goal

pub returns-then-l1-lt255 : goal.returns-then-l1-lt255
unfolding high_luminance
returns-then-l1-lt255 c =
    let e = c.low_luminance.ensures in
    let f = c.wide.ensures.0 in
    let g = c.wide-2.ensures.0 in
    omega arith

pub returns-else-l1-lt255 : goal.returns-else-l1-lt255
unfolding high_luminance
returns-else-l1-lt255 c =
    let e = c.low_luminance.ensures in
    let f = c.wide.ensures.0 in
    let g = c.wide-2.ensures.0 in
    omega arith
