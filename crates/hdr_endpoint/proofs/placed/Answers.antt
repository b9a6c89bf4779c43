-- `hdr_endpoint::placed` meets its contract.
use native.Mathlib.Omega.{arith}
use Rattle.hdr_endpoint.proofs.Laws.{placed_on, placed_off}
use borrow.Author.Rules.{rules}
use Rattle.hdr_endpoint.proofs.placed.Goals as goal

pub returns-then-on-eq1 : goal.returns-then-on-eq1
returns-then-on-eq1 c =
    let x = c.before.before in
    (placed_on _ _ _ _ _ x.bit-on.ensures.0 x.bit.ensures.0 c.shifted-there.ensures.0 c.if-on-eq1.true, omega arith)

pub returns-else-on-eq1 : goal.returns-else-on-eq1
returns-else-on-eq1 c = (placed_off _ _ _ _ _ c.bit-on.ensures.0 c.if-on-eq1.false, omega arith)
