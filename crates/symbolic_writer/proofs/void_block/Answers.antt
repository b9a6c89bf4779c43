use mathlib.Core.Path.{◌≡◌, refl}
use Rattle.bits.specs.Block.{block_number}
use Rattle.void_extent.specs.Writing.{fixed_bits, void_cells}
use Rattle.symbolic_writer.proofs.Piled.{appended}
use Rattle.symbolic_writer.specs.inner.Piled.{with_value, piled, extent_cells}
use Rattle.symbolic_writer.proofs.void_block.Goals as goal

pub returns : goal.returns
unfolding piled void_cells extent_cells
returns c =
    let a3 = c.before.before in
    let f = a3.before in
    let a2 = f.before in
    let w = a2.before in
    let a1 = w.before in
    let a = a1.args in
    let e : block_number a3.append-b-3.result ≡ with_value (with_value (with_value 0 0 0b111111100) 9 a.s.hdr) 10 (fixed_bits a.volume) = appended {p = 10} a3.append-b-3.ensures refl
    (appended {p = 9} a2.append-b-2.ensures refl
    (appended {p = 0} {v = 0b111111100} a1.append-b.ensures refl a1.no_bits.ensures refl)
    w.wide.ensures.0)
    f.fixed_bits.ensures in
    rw (c.with_colours.ensures, c.with_extents.ensures, e)
