use Prim.Native.Nat.{◌*◌}
use lib.ListN.{length}
use Rattle.laws.proofs.Filling.{Filling}
use Rattle.caption_image.proofs.Laws.{byte_at}
use Rattle.caption_image.proofs.fill.Given as goal

abbrev pub invariant-loop-b : goal.invariant-loop-b
invariant-loop-b l = Filling (byte_at l.e0 l.e1 l.width l.height l.wanted) 0 (length l.initial.out) l.out (16 * l.b)
