use Rattle.laws.specs.Table.{tab, tab_from}
use Rattle.symbolic_block.specs.Reading.{void_block}
use Rattle.symbolic_reader.proofs.void_block.Goals as goal

pub returns : goal.returns
unfolding void_block tab tab_from
returns c =
    let c3 = c.before in
    let c2 = c3.before in
    let c1 = c2.before in
    let h = c1.before in
    rw (c.colour-4.ensures, c3.colour-3.ensures, c2.colour-2.ensures, c1.colour.ensures, h.hdr_bit.ensures, h.extents-extents.ensures)
