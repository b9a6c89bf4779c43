use Prim.Native.Nat.{◌-◌, ◌*◌}
use Rattle.pvrtc_order.proofs.Turns.{Turn}
use Rattle.pvrtc_order.proofs.word_place.Given as goal

abbrev pub invariant-loop-k : goal.invariant-loop-k
invariant-loop-k l = Turn l.xb l.yb l.x l.y l.place (2 * l.k) l.a l.b (l.xb - l.k) (l.yb - l.k)
