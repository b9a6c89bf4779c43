use mathlib.Core.Path.{◌≡◌}
use Rattle.laws.proofs.Filling.{Filling}
use Rattle.bits.specs.Block.{block_number}
use Rattle.bits.specs.Field.{field}
use Rattle.bc7_layout.specs.Layout.{field_width, place_of}
use Rattle.bc7_codec.proofs.fields_in.Given as goal

abbrev pub invariant-loop-k : goal.invariant-loop-k
invariant-loop-k l = (l.at ≡ place_of l.m l.p l.k) × Filling (λ i. field (block_number l.b) (place_of l.m l.p i) (field_width l.m l.p i)) 0 60 l.f l.k
