use Rattle.canonical_image.proofs.Laws.{Rewriting}
use Rattle.canonical_image.proofs.rewrite.Given as goal

abbrev pub invariant-loop-b : goal.invariant-loop-b
invariant-loop-b l = Rewriting l.fp l.initial.blocks l.blocks l.t l.b
