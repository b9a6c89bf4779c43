use mathlib.Core.Path.{◌≡◌, refl, sym, ◌∙◌}
use Prim.Native.Nat.{◌≤◌}
use native.Mathlib.Omega.{arith}
use borrow.Author.Rules.{rules}
use Rattle.quantization.specs.Ranges.{largest_to, endpoint_range}
use Rattle.quantization.proofs.Ranges.{here, down}
use Rattle.quantization.proofs.endpoint_range.Given as goal

abbrev pub invariant-loop-i : goal.invariant-loop-i
invariant-loop-i l =
    (l.i ≤ 16) × (endpoint_range l.count l.left ≡ largest_to l.count l.left l.i)

abbrev pub decreases-loop-i : goal.decreases-loop-i
decreases-loop-i l = l.i
