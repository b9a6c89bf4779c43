use mathlib.Core.Path.{sym, ap, ◌∙◌}
use mathlib.Core.Bool.{true}
use Prim.Native.Nat.{◌+◌, ◌-◌, ◌*◌, ◌≤◌}
use native.Mathlib.Omega.{arith}
use lib.ListN.{length}
use Rattle.footprint.proofs.Laws.{flat}
use Rattle.block_fault.specs.Faults.{fault_of}
use Rattle.block_reading.specs.Canonical.{canonical_in}
use Rattle.image_layout.proofs.Tallies.{tally_le}
use Rattle.canonical_image.proofs.Laws.{rewriting_start, rewriting_more, rewriting_done}
use Rattle.canonical_image.proofs.rewrite.Goals as goal

pub loop-b-init : goal.loop-b-init
loop-b-init c = rewriting_start _ _

pub block_of-requires : goal.block_of-requires
block_of-requires c = omega (arith, c.requires.blocks_len, c.loop-b.invariant.size)

pub canonical-c-requires : goal.canonical-c-requires
canonical-c-requires c = let h = c.requires.fp_bound in (omega arith, sym (flat _ (omega arith)))

pub overflow_mul-b : goal.overflow_mul-b
overflow_mul-b c = omega (arith, c.requires.n_bound)

pub put-requires : goal.put-requires
put-requires c = omega (arith, c.requires.blocks_len, c.loop-b.invariant.size)

pub note-t-requires : goal.note-t-requires
note-t-requires c = let l = c.loop-b in (tally_le _ l.b l.t l.invariant.tallied, omega (arith, c.requires.n_bound))

pub loop-b-preserved : goal.loop-b-preserved
loop-b-preserved c =
    let l = c.loop-b in
    let a = c.args in
    rewriting_more a.fp a.blocks.now l.blocks l.t l.b (omega (arith, c.requires.blocks_len)) l.invariant _ (c.canonical-c.ensures.block_value ∙ ap (canonical_in a.fp) c.block_of.ensures)
    _ _ c.store.ensures c.put.ensures _ (c.canonical-c.ensures.fault_value ∙ ap (fault_of true a.fp) c.block_of.ensures) _ c.note-t.ensures

pub returns : goal.returns
returns c =
    let l = c.loop-b in
    let a = c.args in
    let it = rewriting_done a.fp a.blocks.now l.blocks l.t l.b a.n c.requires.blocks_len (omega arith) l.invariant in
    record { value = it.0; blocks_after = it.1 }
