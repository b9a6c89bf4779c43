use mathlib.Core.Path.{refl}
use native.Mathlib.Omega.{arith}
use Rattle.laws.specs.Table.{tab}
use Rattle.quantization.specs.Unquantise.{unquant_endpoint}
use Rattle.block_levels.proofs.Levels.{so_far_start, so_far_next, so_far_done}
use Rattle.partition_texel.proofs.Partition.{byte_here, bytes_done}
use Rattle.partition_texel.proofs.levels_in.Goals as goal

pub loop-k-init : goal.loop-k-init
unfolding tab
loop-k-init c = so_far_start 18 _ _ _ refl

pub loop-k-preserved : goal.loop-k-preserved
loop-k-preserved c = let l = c.loop-k in so_far_next 18 _ _ l.out _ (omega arith) (byte_here _ _ (omega arith) c.stored_in.ensures) c.level_by.ensures.1 c.level_by.ensures.0 l.invariant

pub returns : goal.returns
returns c = let l = c.loop-k in let a = c.args in bytes_done a.range a.n a.xs (so_far_done 18 _ _ (unquant_endpoint a.range) _ l.k a.n (omega arith) c.endpoint_rule-rule.ensures l.invariant)
