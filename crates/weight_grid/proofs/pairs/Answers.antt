use mathlib.Core.Path.{◌≡◌, refl}
use native.Mathlib.Omega.{arith}
use Rattle.laws.proofs.Filling.{filling_start, filling_more, filling_done}
use Rattle.weight_grid.specs.inner.Pairs.{pair_at, pairs_of}
use borrow.Author.Tests.{lt-ltb}
use Rattle.weight_grid.proofs.pairs.Invariants.{no_pair}
use Rattle.weight_grid.proofs.pairs.Goals as goal

pub loop-i-preserved : goal.loop-i-preserved
unfolding pair_at
loop-i-preserved c =
    let q = c.before.before.before in
    let l = q.loop-i in
    filling_more _ no_pair 64 _ l.i _ (omega (arith, q.loop-i-test.true)) l.invariant (rw (lt-ltb l.i 63 q.loop-i-test.true) c.pair_of.ensures)

pub returns : goal.returns
unfolding pairs_of pair_at
returns c =
    let q = c.before.before in
    let l = q.loop-i in
    let z : l.i ≡ 63 = omega (arith, q.loop-i-test.false) in
    filling_done _ no_pair 64 _ 64 refl (filling_more _ no_pair 64 _ 63 _ (omega arith) (rw z at l.invariant) c.pair_of-2.ensures)

pub loop-i-init : goal.loop-i-init
unfolding pairs_of pair_at
loop-i-init c = filling_start _ no_pair 64 _ refl

pub pair_of-requires : goal.pair_of-requires
unfolding pairs_of pair_at
pair_of-requires c = let p = c.requires in (p _, p _)

pub pair_of-requires-2 : goal.pair_of-requires-2
unfolding pairs_of pair_at
pair_of-requires-2 c = (c.requires _, omega arith)
