-- After p turns the table is that of p partitions.
use mathlib.Core.Path.{◌≡◌, refl, ◌∙◌}
use Prim.Native.Nat.{ℕ, ◌<◌}
use native.Mathlib.Omega.{arith}
use mathlib.Core.List.{List}
use lib.ListN.{get_or}
use Rattle.encoding.specs.declared.Level.{Level}
use Rattle.endpoint_arithmetic.specs.declared.EndpointPair.{EndpointPair}
use Rattle.endpoint_arithmetic.specs.Pair.{zero_pair}
use Rattle.interpolation.specs.Expansion.{no_pair}
use Rattle.color_endpoint.specs.Modes.{pair_of}
use Rattle.color_endpoint.specs.Table.{start_of, numbers_from, entry_by, table_by, table_of}
use Rattle.half_pair.specs.Pair.{half_pair_of, zero_half}
use Rattle.color_endpoint.proofs.Laws.{table_next, table_full, table_at, entry_used, start_next}
use Rattle.half_pair.proofs.half_table.Goals as goal

pub loop-p-init : goal.loop-p-init
unfolding start_of table_by entry_by
loop-p-init c = (omega arith, refl, rw c.zero_half-none.ensures)

-- the pair that was made of it in the other kinds
made : (modes : List ℕ) (count : ℕ) (levels : List Level) (p : ℕ) {t : List EndpointPair} {start : ℕ} {v : List Level} → p < 4 → p < count
    → t ≡ table_of modes count levels → start ≡ start_of modes p → v ≡ numbers_from levels start → get_or t p no_pair ≡ pair_of (get_or modes p 0) v
made modes count levels p four used et es ev =
    rw (et, ev, es) (table_at pair_of zero_pair modes levels count p no_pair four ∙ entry_used pair_of zero_pair modes levels count p used)

pub half_pair-requires : goal.half_pair-requires
half_pair-requires c =
    let i = c.before.before in
    let l = i.loop-p in
    let f = i.before.before.before in
    made _ _ _ l.p (omega (arith, i.loop-p-test.true, f.filled-n.ensures)) (omega (arith, i.loop-p-test.true, f.filled-n.ensures)) f.requires l.invariant.1 c.numbers_from.ensures

pub loop-p-preserved : goal.loop-p-preserved
loop-p-preserved c =
    let l = c.loop-p in
    let m = c.args.modes in (
      omega arith,
      rw (c.number_count-start.ensures.0, l.invariant.1) (start_next m l.p),
      table_next half_pair_of zero_half m _ l.p (omega arith) l.invariant.2 l.invariant.1 c.numbers_from.ensures c.half_pair.ensures,
    )

pub returns : goal.returns
returns c =
    let s = c.before.before.before in
    let e : c.loop-p.p ≡ s.filled-n.result = omega arith in
    c.loop-p.invariant.2 ∙ rw (e, s.filled-n.ensures) (table_full half_pair_of zero_half _ _ s.args.count)
