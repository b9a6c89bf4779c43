use Rattle.astc_header.specs.Header.{header_in}
use Rattle.astc_header.proofs.header_in.Goals as goal

-- src/lib.rt:84:1
pub returns : goal.returns
unfolding header_in
returns c = rw (c.footprint_for.ensures, c.size_at.ensures, c.size_at-2.ensures)
