-- `block_fault::hdr_refused` meets its contract.
use Rattle.block_fault.proofs.hdr_refused.Goals as goal

pub returns-then-hdr : goal.returns-then-hdr
returns-then-hdr c = rw c.if-hdr.true

pub returns : goal.returns
returns c = rw (c.if-hdr.false, c.hdr_void_extent.ensures)
