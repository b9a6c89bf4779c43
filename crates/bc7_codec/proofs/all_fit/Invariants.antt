use mathlib.Core.Path.{◌≡◌}
use Prim.Native.Nat.{◌^◌}
use lib.ListN.{get_or}
use lib.Dec.{ltb}
use Rattle.laws.specs.Choice.{all}
use Rattle.bc7_layout.specs.Layout.{field_width}
use Rattle.bc7_codec.proofs.all_fit.Given as goal

abbrev pub invariant-loop-k : goal.invariant-loop-k
invariant-loop-k l = (l.ok ≡ all (λ i. ltb (get_or l.f i 0) (2 ^ field_width l.m l.p i)) l.k)
