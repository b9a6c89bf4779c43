-- The place stays within the clip; the measure is what is left of it.
use Rattle.std.proofs.Common.{length, ◌-◌, ◌≤◌}
use Rattle.clip_runs.proofs.fed.Given as goal

abbrev pub invariant-loop-at : goal.invariant-loop-at
invariant-loop-at g l = l.at ≤ length l.clip

abbrev pub decreases-loop-at : goal.decreases-loop-at
decreases-loop-at g l = length l.clip - l.at
