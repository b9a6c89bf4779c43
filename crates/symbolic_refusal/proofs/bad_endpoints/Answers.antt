use Rattle.symbolic_block.specs.Refusals.{bad_endpoints}
use Rattle.symbolic_refusal.proofs.bad_endpoints.Goals as goal

pub returns : goal.returns
unfolding bad_endpoints
returns c = rw (c.stored_within.ensures, c.wide-most.ensures, c.most_at.ensures, c.endpoint_range_of.ensures, c.endpoint_count-count.ensures.0, c.header_of-h.ensures)
