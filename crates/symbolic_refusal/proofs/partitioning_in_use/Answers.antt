use Rattle.symbolic_refusal.specs.inner.Stages.{partitioning_in_use}
use Rattle.symbolic_refusal.proofs.partitioning_in_use.Goals as goal

pub returns : goal.returns
unfolding partitioning_in_use
returns c = cc
