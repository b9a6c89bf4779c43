use Rattle.laws.specs.Table.{tab_from, tab}
use Rattle.block_levels.proofs.half_lines.Goals as goal

pub returns : goal.returns
unfolding tab tab_from
returns c =
    let x3 = c.before.before in
    let x2 = x3.before.before in
    rw (x2.half_line.ensures, x2.half_line-2.ensures, x3.half_line-3.ensures, c.half_line-4.ensures)
