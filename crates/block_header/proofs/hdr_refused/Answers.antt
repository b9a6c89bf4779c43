-- `block_header::hdr_refused` meets its contract.
use Rattle.block_header.specs.Reasons.{hdr_refused}
use Rattle.block_header.proofs.hdr_refused.Goals as goal

pub returns-then-hdr : goal.returns-then-hdr
unfolding hdr_refused
returns-then-hdr c = rw c.if-hdr.true

pub returns-else-hdr : goal.returns-else-hdr
unfolding hdr_refused
returns-else-hdr c = rw (c.if-hdr.false, c.some_hdr.ensures)
