use mathlib.Core.Path.{refl, sym, ◌∙◌}
use native.Mathlib.Omega.{arith}
use lib.ListN.{length, get_or}
use Rattle.laws.proofs.Filling.{filling_start, filling_more, filling_done}
use Rattle.byte_list.proofs.Tables.{tab_self}
use Rattle.canonical_image.proofs.copy.Goals as goal

pub loop-k-init : goal.loop-k-init
loop-k-init c = filling_start _ 0 _ _ refl

pub bounds-from-k : goal.bounds-from-k
bounds-from-k c = omega (arith, c.loop-k.invariant.size, c.requires)

pub loop-k-preserved : goal.loop-k-preserved
loop-k-preserved c = filling_more _ 0 _ _ _ _ (omega (arith, c.loop-k.invariant.size)) c.loop-k.invariant refl

pub returns : goal.returns
returns c =
    let a = c.args in
    filling_done (λ j. get_or a.from.now j 0) 0 _ _ _ (omega (arith, c.loop-k.invariant.size)) c.loop-k.invariant
    ∙ tab_self a.from.now (length a.out.now) (sym c.requires)
