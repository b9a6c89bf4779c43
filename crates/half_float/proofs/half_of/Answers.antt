-- `half_float::half_of` meets its contract.
use Rattle.half_float.specs.Half.{half_of}
use borrow.Author.Rules.{rules}
use Rattle.half_float.proofs.half_of.Goals as goal

pub returns-then-hdr : goal.returns-then-hdr
unfolding half_of
returns-then-hdr c = rw (c.if-hdr.true, c.lns_half.ensures)

pub returns-else-hdr : goal.returns-else-hdr
unfolding half_of
returns-else-hdr c = rw (c.if-hdr.false, c.unorm_half.ensures)
