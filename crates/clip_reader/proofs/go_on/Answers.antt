use Rattle.std.proofs.Common.{◌≡◌, length, sym, ◌∙◌, arith}
use Rattle.clip_reader.proofs.Feeding.{begun_feed, stop_here, next_here, end_here}
use Rattle.clip_reader.proofs.go_on.Goals as goal

pub loop-i-init : goal.loop-i-init
loop-i-init c = begun_feed _ _

pub returns-then-is_some : goal.returns-then-is_some
returns-then-is_some c =
    stop_here _ _ _ _ _ c.loop-i.invariant _ (omega arith) c.byte_step-t.ensures (sym c.is_some.ensures ∙ c.if-is_some.true) c.fed_by.ensures

pub loop-i-preserved : goal.loop-i-preserved
loop-i-preserved c = next_here _ _ _ _ _ c.loop-i.invariant (omega arith) c.byte_step-t.ensures (sym c.is_some.ensures ∙ c.if-is_some.false)

pub returns : goal.returns
returns c =
    let e : length c.args.piece.now ≡ c.loop-i.i = omega arith in
    end_here _ _ _ _ _ c.loop-i.invariant _ (omega arith) c.quiet.ensures (rw e at c.fed_by-2.ensures)
