use Rattle.block_levels.proofs.Levels.{SoFar}
use Rattle.partition_texel.proofs.Partition.{bytes_in}
use Rattle.partition_texel.proofs.levels_in.Given as goal

abbrev pub invariant-loop-k : goal.invariant-loop-k
invariant-loop-k l = SoFar 18 l.rule (bytes_in l.xs) l.out l.k
