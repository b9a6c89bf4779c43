use native.Mathlib.Omega.{arith}
use mathlib.Core.Path.{◌≡◌, refl, sym, ap, ◌∙◌}
use Prim.Native.Nat.{ℕ}
use lib.ListN.{get_or}
use Rattle.laws.specs.Table.{padded}
use Rattle.laws.proofs.Filling.{padded_none, padded_more}
use Rattle.integer_sequence.specs.Reading.{stored}
use Rattle.symbolic_writer.proofs.lengthened.Goals as goal

pub no_numbers-out-requires : goal.no_numbers-out-requires
no_numbers-out-requires c = tt

pub loop-i-init : goal.loop-i-init
loop-i-init c = c.no_numbers-out.ensures ∙ sym (padded_none _ (stored 0) 64)

pub loop-i-preserved : goal.loop-i-preserved
loop-i-preserved c =
    let l = c.loop-i in
    let xs = c.args.xs in
    rw l.invariant (padded_more (λ k. get_or xs k (stored 0)) (stored 0) 64 l.i _ (omega arith) refl)

pub returns : goal.returns
returns c =
    let xs = c.args.xs in
    let e : c.loop-i.i ≡ 18 = omega arith in
    c.loop-i.invariant ∙ ap (λ (n : ℕ). padded 64 n (λ k. get_or xs k (stored 0)) (stored 0)) e
