use Prim.Native.Nat.{◌*◌}
use native.Mathlib.Omega.{arith}
use Rattle.block_header.specs.Counts.{weight_count}
use Rattle.block_levels.proofs.Levels.{one_plane_lem, two_planes}
use Rattle.block_levels.proofs.points_of.Goals as goal

pub returns-then-g-eq2 : goal.returns-then-g-eq2
unfolding weight_count
returns-then-g-eq2 c =
    let w = c.before.before.before in
    let s = w.before.before.before in
    let g = s.args.g in
    let n = w.weight_count-n.ensures.0 in
    rw (← n, ← w.reversed.ensures)
    (two_planes g.range _ _ (omega (arith, n, s.requires.1)) g.planes (g.width * g.height * g.depth) c.if-g-eq2.true n w.read_weights-weights.ensures c.paired.ensures)

pub returns-else-g-eq2 : goal.returns-else-g-eq2
unfolding weight_count
returns-else-g-eq2 c =
    let w = c.before.before in
    let s = w.before.before.before in
    let g = s.args.g in
    let n = w.weight_count-n.ensures.0 in
    rw (← n, ← w.reversed.ensures)
    (one_plane_lem g.range _ _ (omega (arith, n, s.requires.1)) g.planes (g.width * g.height * g.depth) (omega (arith, c.if-g-eq2.false, s.requires.0.planes_low, s.requires.0.planes_most)) n w.read_weights-weights.ensures)
