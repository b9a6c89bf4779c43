-- After p turns the table is that of p partitions.
use mathlib.Core.Path.{◌≡◌, sym, ◌∙◌}
use native.Mathlib.Nat.{zero-add}
use native.Mathlib.Omega.{arith}
use Rattle.endpoint_arithmetic.specs.Pair.{zero_pair}
use Rattle.color_endpoint.specs.Modes.{pair_of}
use Rattle.color_endpoint.specs.Table.{start_of, entry_by, table_by}
use Rattle.color_endpoint.proofs.Laws.{table_next, table_full, start_next}
use Rattle.color_endpoint.proofs.later_pairs.Goals as goal

-- with no partition the table is of zeros
pub returns-then-n-eq0 : goal.returns-then-n-eq0
unfolding table_by entry_by
returns-then-n-eq0 c =
    let f = c.before.before in
    let z : f.args.count ≡ 0 = omega (arith, c.if-n-eq0.true, f.filled-n.ensures) in
    rw (z, c.zero_pair.ensures)

pub loop-p-init : goal.loop-p-init
unfolding start_of
loop-p-init c =
    let s = c.before.before.before in
    (omega (arith, c.number_count-start.ensures.1), c.number_count-start.ensures.0 ∙ sym (zero-add _), s.requires)

pub loop-p-preserved : goal.loop-p-preserved
loop-p-preserved c =
    let l = c.loop-p in
    let m = c.args.modes in (
      omega arith,
      rw (c.number_count-start-in-loop-p.ensures.0, l.invariant.1) (start_next m l.p),
      table_next pair_of zero_pair m _ l.p (omega arith) l.invariant.2 l.invariant.1 c.numbers_from.ensures c.endpoint_pair.ensures,
    )

pub returns : goal.returns
returns c =
    let f = c.before.before.before.before in
    let e : c.loop-p.p ≡ f.filled-n.result = omega arith in
    c.loop-p.invariant.2 ∙ rw (e, f.filled-n.ensures) (table_full pair_of zero_pair _ _ f.args.count)
