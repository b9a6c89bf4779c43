use Rattle.symbolic_refusal.specs.inner.Stages.{number_reasons}
use Rattle.symbolic_refusal.proofs.number_refusal.Goals as goal

pub returns-then-bad_endpoints-bad_weights : goal.returns-then-bad_endpoints-bad_weights
unfolding number_reasons
returns-then-bad_endpoints-bad_weights c = rw (← c.bad_endpoints.ensures, ← c.bad_weights.ensures, c.if-bad_endpoints-bad_weights.true)

pub returns-then-marked_without : goal.returns-then-marked_without
unfolding number_reasons
returns-then-marked_without c =
    rw (← c.bad_endpoints.ensures, ← c.bad_weights.ensures, c.if-bad_endpoints-bad_weights.false, ← c.marked_without.ensures, c.if-marked_without.true)

pub returns : goal.returns
unfolding number_reasons
returns c = rw (← c.bad_endpoints.ensures, ← c.bad_weights.ensures, c.if-bad_endpoints-bad_weights.false, ← c.marked_without.ensures, c.if-marked_without.false)
