use native.Mathlib.Omega.{arith}
use Rattle.pvrtc_image.proofs.blend_word.Goals as goal

pub blend-a-requires : goal.blend-a-requires
blend-a-requires c =
    let p = c.requires in
    let i = c.args.i in
    (p.i_bound.1, omega (arith, p.low.0.first_low i (omega arith)), omega (arith, p.low.1.first_low i (omega arith)))

pub blend-b-requires : goal.blend-b-requires
blend-b-requires c =
    let d = c.before.before.before.before.before in
    let p = d.requires in
    let i = d.args.i in
    (p.i_bound.1, omega (arith, p.low.0.second_low i (omega arith)), omega (arith, p.low.1.second_low i (omega arith)))

pub returns : goal.returns
returns c = rw (c.blend-a.ensures, c.blend-b.ensures, c.own_word-w.ensures)
