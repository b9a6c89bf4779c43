use Rattle.astc_header.specs.Header.{size_at}
use Rattle.astc_header.proofs.size_at.Goals as goal

-- src/lib.rt:76:1
pub returns : goal.returns
unfolding size_at
returns c = rw (c.wide.ensures.0, c.wide-2.ensures.0, c.wide-3.ensures.0)
