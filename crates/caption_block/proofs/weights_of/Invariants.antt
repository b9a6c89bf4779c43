use mathlib.Core.Path.{◌≡◌}
use mathlib.Core.List.{List}
use Prim.Native.Nat.{ℕ}
use lib.ListN.{get_or}
use Rattle.laws.specs.Table.{padded}
use Rattle.encoding.specs.declared.Stored.{Stored}
use Rattle.integer_sequence.specs.Reading.{stored}
use Rattle.grey_caption.specs.Caption.{squared, least_at}
use Rattle.caption_block.proofs.weights_of.Given as goal

abbrev pub weight_at : List ℕ → List ℕ → ℕ → Stored
weight_at shades wanted i = stored (least_at (λ w. squared (get_or shades w 0) (get_or wanted i 0)) 3)

abbrev pub invariant-loop-i : goal.invariant-loop-i
invariant-loop-i l = l.out ≡ padded 64 l.i (weight_at l.shades l.wanted) (stored 0)
