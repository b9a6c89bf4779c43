use mathlib.Core.Path.{sym, ◌∙◌}
use Prim.Native.Nat.{◌+◌, ◌*◌, ◌/◌, ◌≤◌}
use native.Mathlib.Omega.{arith}
use Rattle.block_header.specs.Counts.{endpoint_count, bits_left}
use Rattle.block_header.proofs.Laws.{count_over, bits_short, hdr_there, ends_sound}
use Rattle.block_header.proofs.endpoint_stage.Goals as goal
use Rattle.block_header.proofs.endpoint_stage.Goals.{Else-left-count}

enough : (c : Else-left-count) → (13 * endpoint_count c.args.h + 4) / 5 ≤ bits_left c.args.h
enough c = let p = c.requires in rw (← p.0, ← p.2) c.if-left-count.false

pub returns-then-count-gt18 : goal.returns-then-count-gt18
returns-then-count-gt18 c = count_over c.args.hdr c.args.h (omega arith)

pub returns-then-left-count : goal.returns-then-left-count
returns-then-left-count c =
    let p = c.requires in
    bits_short c.args.hdr c.args.h (omega arith) (rw (← p.0, ← p.2) c.if-left-count.true)

pub returns-then-hdr_refused : goal.returns-then-hdr_refused
returns-then-hdr_refused c = hdr_there c.args.hdr c.args.h (omega arith) (enough c.before.before) (sym c.hdr_refused.ensures ∙ c.if-hdr_refused.true)

pub returns : goal.returns
returns c = ends_sound c.args.hdr c.args.h (omega arith) (enough c.before.before) (sym c.hdr_refused.ensures ∙ c.if-hdr_refused.false)
