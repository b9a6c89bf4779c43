use mathlib.Core.Path.{◌≡◌, refl, ap}
use mathlib.Core.List.{List}
use Prim.Native.Nat.{ℕ, ◌+◌}
use native.Mathlib.Omega.{arith}
use lib.ListN.{get_or, length-set}
use Rattle.picture_regions.proofs.Regions.{pasted_none, pasted_more}
use Rattle.bc7_image.proofs.put_row.Goals as goal

zero_first : (k : ℕ) → k ≡ 0 + k
zero_first k = omega arith

from_zero : (l : List ℕ) (k : ℕ) → get_or l k 0 ≡ get_or l (0 + k) 0
from_zero l k = ap (λ (j : ℕ). get_or l j 0) (zero_first k)

pub loop-i-preserved : goal.loop-i-preserved
loop-i-preserved c = let l = c.loop-i in
    (omega arith, simp length-set l.invariant.1, pasted_more _ _ _ _ _ l.i l.out _ (omega arith) (from_zero c.args.row l.i) l.invariant.2)

pub returns : goal.returns
returns c = let q : c.loop-i.i ≡ 16 = omega arith in rw q at c.loop-i.invariant.2

pub loop-i-init : goal.loop-i-init
loop-i-init c = (omega arith, refl, pasted_none _ _ _ _ _)

pub shape_of-out : goal.shape_of-out
shape_of-out c = c.loop-i.invariant.1
