use mathlib.Core.Path.{◌≡◌, refl, sym, ap, ◌∙◌}
use native.Mathlib.Omega.{arith}
use Rattle.laws.proofs.Filling.{padded_none, padded_more}
use Rattle.weight_reader.specs.inner.Weights.{no_levels, paired_of}
use Rattle.weight_reader.proofs.paired.Goals as goal

pub loop-i-init : goal.loop-i-init
unfolding paired_of
loop-i-init c = c.no_weights-out.ensures ∙ sym (padded_none _ no_levels 64)

pub loop-i-preserved : goal.loop-i-preserved
unfolding paired_of
loop-i-preserved c = let l = c.loop-i in rw l.invariant (padded_more _ no_levels 64 l.i _ (omega arith) refl)

pub returns : goal.returns
returns c = let l = c.loop-i in
    let e : l.i ≡ c.args.count = omega arith in
    l.invariant ∙ ap (paired_of _) e
