use native.Mathlib.Omega.{arith}
use Rattle.bits.proofs.Blocks.{eight_bytes}
use Rattle.bits.proofs.whole_word.Goals as goal

pub returns : goal.returns
returns c =
    let first = c.before.before.before.before.before.before.before.before.before.before.before.before.before.before in
    let entry = first.before.before.before in
    eight_bytes entry.args.s.now (λ i. (first.shared_slice_known-1.given i).fits) entry.args.k (omega arith)
    first.wide.ensures.0
    c.wide-2.ensures.0
    c.wide-3.ensures.0
    c.wide-4.ensures.0
    c.wide-5.ensures.0
    c.wide-6.ensures.0
    c.wide-7.ensures.0
    c.wide-8.ensures.0
