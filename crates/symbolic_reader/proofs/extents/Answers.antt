use Rattle.laws.specs.Table.{tab, tab_from}
use Rattle.symbolic_reader.proofs.extents.Goals as goal

pub returns : goal.returns
unfolding tab tab_from
returns c =
    let e5 = c.before in
    let e4 = e5.before in
    let e3 = e4.before in
    let e2 = e3.before in
    rw (c.extent-r1.ensures, e5.extent-r0.ensures, e4.extent-t1.ensures, e3.extent-t0.ensures, e2.extent-s1.ensures, e2.extent-s0.ensures)
