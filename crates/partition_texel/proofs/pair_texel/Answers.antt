use Prim.Native.Nat.{◌/◌, ◌%◌}
use Rattle.partition_texel.proofs.Partition.{pair_steps}
use Rattle.partition_texel.proofs.pair_texel.Goals as goal

pub returns : goal.returns
returns c =
    let w3 = c.before in
    let b = w3.before in
    let w2 = b.before in
    let g = w2.before in
    let w1 = g.before in
    let r = w1.before in
    let w0 = r.before in
    let a = w0.args in
    pair_steps a.kind a.p (a.weights.0 % 256) (a.weights.0 / 65536) a.component w0.chosen.ensures r.channel-r.ensures w1.chosen-2.ensures g.channel-g.ensures
    w2.chosen-3.ensures b.channel-b.ensures w3.chosen-4.ensures c.channel-a.ensures
