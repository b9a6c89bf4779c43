use Rattle.astc_header.specs.Header.{known_shape}
use Rattle.astc_header.proofs.known_shape.Goals as goal

-- src/lib.rt:96:1
pub returns : goal.returns
unfolding known_shape
returns c = rw (c.both-2.ensures, c.both.ensures, c.size_at.ensures, c.header_in-h.ensures)
