use mathlib.Core.Path.{◌≡◌, refl, ◌∙◌}
use Prim.Native.Nat.{◌-◌, ◌≤◌}
use native.Mathlib.Omega.{arith}
use lib.ListN.{length, get_or, length-set}
use Rattle.laws.specs.inner.Filled.{Filled}
use Rattle.laws.proofs.Filling.{filled_none, filled_more}
use Rattle.pvrtc_rows.proofs.copy_row.Goals as goal

pub loop-j-init : goal.loop-j-init
loop-j-init c = (omega arith, c.requires.2, filled_none _ _ _)

pub loop-j-preserved : goal.loop-j-preserved
loop-j-preserved c = let l = c.loop-j in
    (omega arith, simp length-set l.invariant.1, filled_more _ 0 l.to l.j _ (omega arith) l.invariant.2 refl)

pub returns : goal.returns
returns c = let l = c.loop-j in
    let e : l.j ≡ c.args.n = omega arith in record { filled = rw e at l.invariant.2; to_len = l.invariant.1 }
