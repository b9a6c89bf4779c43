use Rattle.laws.specs.Table.{tab}
use Rattle.color_endpoint.specs.Modes.{is_hdr}
use Rattle.block_header.specs.Reasons.{some_hdr}
use Rattle.symbolic_block.specs.Reading.{mode_block}
use Rattle.grey_caption.specs.Caption.{settings, sheet_with}
use Rattle.caption_block.proofs.sheet_of.Goals as goal

pub returns : goal.returns
unfolding sheet_with mode_block settings some_hdr is_hdr tab
returns c w e = rw e
