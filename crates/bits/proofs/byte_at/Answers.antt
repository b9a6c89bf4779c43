use mathlib.Core.Path.{sym, ◌∙◌}
use native.Mathlib.Omega.{arith}
use Rattle.bits.proofs.Blocks.{byte_here, byte_past}
use Rattle.bits.proofs.byte_at.Goals as goal

pub returns-then-k-s : goal.returns-then-k-s
returns-then-k-s c = c.wide.ensures.0 ∙ sym (byte_here c.args.s.now (λ i. (c.shared_slice_known-1.given i).fits) c.args.k (omega arith))

pub returns-else-k-s : goal.returns-else-k-s
returns-else-k-s c = sym (byte_past c.args.s.now (λ i. (c.shared_slice_known-1.given i).fits) c.args.k c.if-k-s.false)
