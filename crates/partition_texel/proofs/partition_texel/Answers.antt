use mathlib.Core.Path.{refl}
use Prim.Native.Nat.{◌≤◌}
use native.Mathlib.Omega.{arith}
use Rattle.bits.specs.Block.{block_number}
use Rattle.encoding.specs.inner.Levels.{first_level, second_level}
use Rattle.weight_grid.specs.Cell.{level}
use Rattle.block_header.specs.Counts.{endpoint_count}
use Rattle.partition_texel.proofs.Partition.{start_le, texel_told_lem}
use Rattle.partition_texel.proofs.partition_texel.Goals as goal
use Rattle.partition_texel.proofs.partition_texel.Goals.{Start}

-- at most eighteen numbers
room : (s : Start) → endpoint_count s.args.h ≤ 18
room s = rw (← s.requires.n_value.0) s.requires.n_value.1

pub own_levels-levels-requires : goal.own_levels-levels-requires
own_levels-levels-requires c =
    let q = c.before.before in
    let s = q.before.before in
    (omega (arith, q.start_of-start.ensures, start_le (block_number s.args.block) s.args.h s.args.p s.requires.p_lt_partitions.0 s.requires.p_lt_partitions.1 (room s)), omega (arith, c.own_count-count.ensures))

pub returns : goal.returns
returns c =
    let l = c.before in
    let f = l.before in
    let o = f.before in
    let q = o.before in
    let s = q.before.before in
    let a = s.args in
    texel_told_lem (block_number a.block) a.h a.p s.requires.p_lt_partitions.0 s.requires.p_lt_partitions.1 (room s) a.kind (level (first_level a.weights)) (level (second_level a.weights)) a.component
    refl q.start_of-start.ensures o.own_count-count.ensures f.endpoints_from-from.ensures s.requires.n_value.0 s.requires.n_value.2 l.own_levels-levels.ensures c.own_texel.ensures
