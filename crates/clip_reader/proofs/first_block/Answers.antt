use Rattle.std.proofs.Common.{sym}
use Rattle.laws.specs.Table.{tab_from, tab}
use Rattle.clip.proofs.Timely.{first, first_of}
use Rattle.clip_reader.proofs.first_block.Goals as goal

pub returns : goal.returns
unfolding first tab tab_from
returns c = let o = c.before.before.before.before.before.before.before.before.before.before.before.before.before.before.before.before in sym (first_of 16 o.args.piece.now o.requires)
