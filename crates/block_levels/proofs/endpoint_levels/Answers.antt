use mathlib.Core.Path.{refl}
use native.Mathlib.Omega.{arith}
use Rattle.laws.specs.Table.{tab}
use Rattle.quantization.specs.Unquantise.{unquant_endpoint}
use Rattle.block_levels.proofs.Levels.{so_far_start, so_far_next, so_far_done}
use Rattle.block_levels.proofs.endpoint_levels.Goals as goal

pub loop-i-init : goal.loop-i-init
unfolding tab
loop-i-init c = so_far_start 18 _ _ _ refl

pub loop-i-preserved : goal.loop-i-preserved
loop-i-preserved c = so_far_next 18 _ _ c.loop-i.out c.loop-i.i (omega arith) refl c.level_by.ensures.1 c.level_by.ensures.0 c.loop-i.invariant

pub returns : goal.returns
returns c = so_far_done 18 _ _ (unquant_endpoint c.args.range) _ c.loop-i.i c.args.n (omega arith) c.endpoint_rule-rule.ensures c.loop-i.invariant
