-- `hdr_endpoint::low_part` meets its contract.
use mathlib.Core.Path.{◌∙◌}
use Rattle.hdr_endpoint.proofs.Laws.{clamp_low}
use borrow.Author.Rules.{rules}
use Rattle.hdr_endpoint.proofs.low_part.Goals as goal

pub returns : goal.returns
returns c = c.clamp.ensures.0 ∙ clamp_low _ _ _ _ _
