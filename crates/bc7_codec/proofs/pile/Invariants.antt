use mathlib.Core.Path.{◌≡◌}
use lib.ListN.{get_or}
use Rattle.bits.specs.Block.{block_number}
use Rattle.bits.specs.Field.{stream}
use Rattle.bc7_layout.specs.Layout.{place_of}
use Rattle.bc7_codec.proofs.pile.Given as goal

abbrev pub invariant-loop-k : goal.invariant-loop-k
invariant-loop-k l = (l.at ≡ place_of l.m l.p l.k) × (block_number l.b ≡ stream (place_of l.m l.p) (λ i. get_or l.f i 0) l.k)
