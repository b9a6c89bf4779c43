use Rattle.bits.specs.Block.{block_number}
use Rattle.block_levels.proofs.Levels.{lines_told}
use Rattle.block_levels.proofs.lines_of.Goals as goal

pub returns : goal.returns
returns c =
    let o = c.before.before in
    let s = o.before.before in
    lines_told (block_number s.args.block) s.args.h s.args.kind s.requires.0 o.endpoints_from.ensures s.requires.2 o.endpoints_of-ends.ensures c.table_lines.ensures
