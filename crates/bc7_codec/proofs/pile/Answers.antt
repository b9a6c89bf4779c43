use mathlib.Core.Path.{◌≡◌, ◌∙◌}
use native.Mathlib.Omega.{arith}
use Rattle.bits.specs.Field.{stream}
use Rattle.bc7_codec.proofs.Steps.{place_start, next_place, place_bound, piled}
use Rattle.bc7_codec.proofs.pile.Goals as goal

pub loop-k-init : goal.loop-k-init
unfolding stream
loop-k-init c = (place_start _ _, c.no_bits-b.ensures)

pub overflow_add-at : goal.overflow_add-at
overflow_add-at c = omega (arith, c.width_of-at.ensures.1, c.loop-k.invariant.0, place_bound c.args.m c.args.p c.loop-k.k c.requires.0.mode)

pub loop-k-preserved : goal.loop-k-preserved
loop-k-preserved c = (next_place _ _ _ _ _ c.loop-k.invariant.0 c.width_of-at.ensures.0, c.append-b.ensures ∙ piled _ _ _ c.requires.0 _ _ _ _ (omega arith) c.loop-k.invariant.1 c.loop-k.invariant.0 c.wide.ensures)

pub returns : goal.returns
returns c = let e : c.loop-k.k ≡ 60 = omega arith in rw e at c.loop-k.invariant.1
