use mathlib.Core.Path.{◌≡◌, sym, ap, ◌∙◌}
use Prim.Native.Nat.{ℕ}
use native.Mathlib.Omega.{arith}
use lib.ListN.{get_or}
use Rattle.laws.specs.Table.{tab, padded}
use Rattle.laws.proofs.Filling.{padded_none, padded_more}
use Rattle.endpoint_arithmetic.specs.Pair.{zero_pair}
use Rattle.interpolation.specs.Expansion.{no_pair}
use Rattle.interpolation.specs.inner.Line.{line_of}
use Rattle.block_levels.proofs.pair_lines.Goals as goal

pub loop-p-init : goal.loop-p-init
unfolding tab
loop-p-init c = rw (c.line_of-none.ensures, c.zero_pair.ensures) (sym (padded_none (λ k. line_of (get_or c.args.t k no_pair)) (line_of zero_pair) 4))

pub bounds-t-p : goal.bounds-t-p
bounds-t-p c = omega (arith, c.loop-p-test.true, c.requires)

pub bounds-out-p : goal.bounds-out-p
bounds-out-p c = omega (arith, c.loop-p-test.true, c.requires)

pub loop-p-preserved : goal.loop-p-preserved
loop-p-preserved c =
    let q = c.before.before in
    let l = q.loop-p in
    let s = q.before.before.before.before in
    rw l.invariant
    (padded_more (λ k. line_of (get_or s.args.t k no_pair)) (line_of zero_pair) 4 l.p _ (omega (arith, q.loop-p-test.true, s.requires)) c.line_of.ensures)

pub returns : goal.returns
returns c =
    let l = c.loop-p in
    let s = c.before.before.before.before in
    let e : l.p ≡ s.args.n = omega (arith, c.loop-p-test.false) in
    l.invariant ∙ ap (λ (m : ℕ). padded 4 m (λ k. line_of (get_or s.args.t k no_pair)) (line_of zero_pair)) e
