use Rattle.block_levels.proofs.Levels.{SoFar}
use Rattle.block_levels.proofs.endpoint_levels.Given as goal

abbrev pub invariant-loop-i : goal.invariant-loop-i
invariant-loop-i l = SoFar 18 l.rule l.xs l.out l.i
