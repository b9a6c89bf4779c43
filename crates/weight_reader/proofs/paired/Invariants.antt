use mathlib.Core.Path.{◌≡◌}
use Rattle.weight_reader.specs.inner.Weights.{paired_of}
use Rattle.weight_reader.proofs.paired.Given as goal

abbrev pub invariant-loop-i : goal.invariant-loop-i
invariant-loop-i l = l.out ≡ paired_of l.weights l.i
