use mathlib.Core.Path.{◌∙◌}
use Rattle.bc7_block.proofs.Fits.{fitting}
use Rattle.bc7_codec.proofs.Whole.{fields_fit, stream_is}
use Rattle.bc7_codec.proofs.block_of.Goals as goal

pub fields_of-f-requires : goal.fields_of-f-requires
fields_of-f-requires c = (fitting _ c.requires).mode

pub pile-requires : goal.pile-requires
pile-requires c = (fields_fit _ _ c.fields_of-f.ensures c.requires, c.plan_for-plan.ensures)

pub returns : goal.returns
returns c = c.pile.ensures ∙ stream_is _ _ c.fields_of-f.ensures
