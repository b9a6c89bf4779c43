use Rattle.symbolic_writer.specs.inner.Piled.{piled, extent_cells}
use Rattle.symbolic_writer.proofs.with_extents.Goals as goal

pub returns : goal.returns
unfolding piled extent_cells
returns c =
    let e5 = c.before in
    let e4 = e5.before in
    let e3 = e4.before in
    let e2 = e3.before in
    rw (c.with_extent.ensures, e5.with_extent-b-5.ensures, e4.with_extent-b-4.ensures, e3.with_extent-b-3.ensures, e2.with_extent-b-2.ensures, e2.with_extent-b.ensures)
