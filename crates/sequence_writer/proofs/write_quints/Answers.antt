use mathlib.Core.Path.{◌∙◌}
use Prim.Native.Nat.{◌+◌, ◌*◌, ◌≤◌}
use native.Mathlib.Omega.{arith}
use borrow.Author.Rules.{rules}
use Rattle.bits.specs.Block.{block_number}
use Rattle.encoding.specs.declared.Encoding.TheVariants.{Quints}
use Rattle.encoding.specs.Encoding.{sequence_bits}
use Rattle.sequence_writer.proofs.Growing.{Grown, grown_none, grown_near, grown_more, grown_cut, grown_all}
use Rattle.sequence_writer.proofs.write_quints.Goals as goal
use Rattle.sequence_writer.proofs.write_quints.Goals.{After-append-out-in-loop-i, then-i-n, else-i-n}

pub loop-i-init : goal.loop-i-init
unfolding sequence_bits
loop-i-init c = grown_none Quints _ _ _ _ _ _ c.append-out.ensures

pub overflow_add-at-in-loop-i : goal.overflow_add-at-in-loop-i
unfolding sequence_bits
overflow_add-at-in-loop-i c = omega (arith, grown_near Quints _ _ _ _ _ _ c.append-out.ensures (omega arith) (search rules) _ _ _ c.loop-i.invariant (omega arith) (omega arith))

-- a whole group more
more : (c : After-append-out-in-loop-i) → c.loop-i.i + 3 ≤ c.args.n
    → Grown Quints c.args.b c.args.n c.args.from c.args.xs (block_number c.append-out.result) (block_number c.append-out-in-loop-i.result) (c.loop-i.at + (3 * c.args.b + 7)) (c.loop-i.i + 3)
unfolding sequence_bits
more c h =
    elim c.if-i-n.branch [
      | then-i-n w ↦ grown_more Quints _ _ _ _ _ _ c.append-out.ensures (omega arith) (search rules) _ _ _ c.loop-i.invariant _ _ c.append-out-in-loop-i.ensures h (w.group-is ∙ w.three_quints-group.ensures)
      | else-i-n w ↦ absurd (omega (arith, w.if-i-n.false))
    ]

pub loop-i-preserved : goal.loop-i-preserved
loop-i-preserved c = more c.before (omega arith)

-- the last group, whole or cut
pub returns-after-i-n : goal.returns-after-i-n
returns-after-i-n c =
    elim c.if-i-n.branch [
      | then-i-n w ↦ grown_all Quints _ _ _ _ _ _ c.append-out.ensures (omega arith) (search rules) _ _ _ (more c.before (omega (arith, w.if-i-n.true))) (omega arith)
      | else-i-n w ↦ grown_cut Quints _ _ _ _ _ _ c.append-out.ensures (omega arith) (search rules) _ _ _ c.loop-i.invariant _ _ c.append-out-in-loop-i.ensures (omega (arith, w.if-i-n.false)) (w.group-is ∙ w.last_quints-group.ensures)
    ]

pub returns : goal.returns
returns c = grown_all Quints _ _ _ _ _ _ c.append-out.ensures (omega arith) (search rules) _ _ _ c.loop-i.invariant (omega arith)
