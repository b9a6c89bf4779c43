use borrow.Author.Rules.{rules}
use Rattle.spare_bits.proofs.spare_in.Goals as goal

pub returns : goal.returns
returns c =
    rw (c.some_set.ensures, c.spare_bits-count.ensures, c.endpoints_end-end.ensures.0)
