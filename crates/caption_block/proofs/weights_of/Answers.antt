use native.Mathlib.Omega.{arith}
use mathlib.Core.Path.{◌≡◌, sym, ap, ◌∙◌}
use Prim.Native.Nat.{ℕ}
use Rattle.laws.specs.Table.{padded}
use Rattle.laws.proofs.Filling.{padded_none, padded_more}
use Rattle.integer_sequence.specs.Reading.{stored}
use Rattle.caption_block.proofs.weights_of.Invariants.{weight_at}
use Rattle.caption_block.proofs.weights_of.Goals as goal

pub loop-i-init : goal.loop-i-init
loop-i-init c = c.no_weights-out.ensures ∙ sym (padded_none _ (stored 0) 64)

pub loop-i-preserved : goal.loop-i-preserved
loop-i-preserved c =
    let a = c.args in
    rw c.loop-i.invariant (padded_more (weight_at a.shades a.wanted) (stored 0) 64 c.loop-i.i _ (omega arith) c.best_weight.ensures)

pub returns : goal.returns
returns c =
    let a = c.args in
    let e : c.loop-i.i ≡ 16 = omega arith in
    c.loop-i.invariant ∙ ap (λ (n : ℕ). padded 64 n (weight_at a.shades a.wanted) (stored 0)) e
