use mathlib.Core.Path.{◌≡◌}
use Prim.Native.Nat.{ℕ, ◌*◌}
use lib.ListN.{length}
use Rattle.block_buffer.proofs.Painting.{Laid}
use Rattle.block_buffer.proofs.flood.Given as goal

abbrev pub invariant-loop-i : goal.invariant-loop-i
invariant-loop-i l = ((width : ℕ) → length l.initial.out ≡ 864 → Laid width (λ x y. l.t) l.initial.out l.out (4 * l.i))
