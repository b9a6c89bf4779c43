use Rattle.symbolic_refusal.specs.inner.Stages.{grid_in_use}
use Rattle.symbolic_refusal.proofs.grid_in_use.Goals as goal

pub returns : goal.returns
unfolding grid_in_use
returns c = cc
