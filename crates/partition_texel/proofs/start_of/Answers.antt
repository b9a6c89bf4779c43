use mathlib.Core.Path.{◌≡◌, refl, sym}
use native.Mathlib.Omega.{arith}
use Rattle.color_endpoint.specs.Table.{start_of}
use Rattle.color_endpoint.proofs.Laws.{start_next}
use Rattle.partition_texel.proofs.start_of.Goals as goal

pub loop-i-init : goal.loop-i-init
unfolding start_of
loop-i-init c = (omega arith, refl)

pub loop-i-preserved : goal.loop-i-preserved
loop-i-preserved c = let l = c.loop-i in (omega arith, rw (c.number_count-start.ensures.0, l.invariant.1) (start_next _ l.i))

pub returns : goal.returns
returns c = let l = c.loop-i in let e : l.i ≡ c.args.p = omega arith in rw (sym e) l.invariant.1
