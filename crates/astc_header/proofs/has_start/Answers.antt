use Rattle.astc_header.specs.Header.{has_start}
use Rattle.astc_header.proofs.has_start.Goals as goal

-- src/lib.rt:54:1
pub returns : goal.returns
unfolding has_start
returns c = c.same_four.ensures
