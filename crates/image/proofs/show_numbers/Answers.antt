use native.Mathlib.Omega.{arith}
use mathlib.Core.Path.{sym, ap, ◌∙◌}
use Rattle.block_reading.proofs.Shows.{held}
use Rattle.image_layout.specs.Numbers.{fault_at_in}
use Rattle.block_reading.specs.Faults.{fault_in}
use Rattle.interpolation.specs.Expansion.{takes_hdr}
use Rattle.footprint.proofs.Laws.{flat}
use Rattle.picture_regions.proofs.Regions.{placed_as}
use Rattle.image_layout.proofs.Parts.{block_shown}
use lib.ListN.{length}
use Rattle.texel_fill.specs.inner.Everywhere.{everywhere}
use Rattle.image.proofs.Uniform.{uniform_held}
use Rattle.image.proofs.show_numbers.Goals as goal

pub decode_some_in-d-requires : goal.decode_some_in-d-requires
decode_some_in-d-requires c = let l = c.requires.sound_grid.footprint in (omega (arith, l), sym (flat _ l))

pub flood_numbers-requires : goal.flood_numbers-requires
flood_numbers-requires c = let p = c.requires in record { sound_grid = p.sound_grid; part_fits = c.part_of-p.ensures.fits; out_len = p.out_len }

pub returns-in-Uniform : goal.returns-in-Uniform
unfolding fault_at_in
returns-in-Uniform c = let v = c.in-Uniform in
    let d = c in
    let b = d in
    let a = b.args in
    let p = b.requires in
    let z = rw v.is at d.decode_some_in-d.ensures in record { value = sym z.0 ∙ ap (fault_in a.reading (takes_hdr a.kind) _) b.block_of-block.ensures; tile = block_shown a.kind a.g a.reading p.sound_grid a.s.now a.b _ _ (everywhere v.u.texel) a.out.now _ b.part_of-p.ensures b.block_of-block.ensures (uniform_held a.reading _ a.kind _ _ z.2) (placed_as _ _ (λ n. sym (p.words n)) _ _ _ _ _ _ _ _ _ _ c.flood_numbers.ensures); buf_len_2 = ap length z.1 ∙ p.buf_len }

pub returns-in-Buffered : goal.returns-in-Buffered
unfolding fault_at_in
returns-in-Buffered c = let d = c in
    let b = d in
    let a = b.args in
    let p = b.requires in
    let z = rw c.in-Buffered.is at c.decode_some_in-d.ensures in
    let h = held a.reading _ _ _ _ _ p.buf_len (z.1 p.buf_len) in record { value = sym z.0 ∙ ap (fault_in a.reading (takes_hdr a.kind) _) c.block_of-block.ensures; tile = block_shown a.kind a.g a.reading p.sound_grid a.s.now a.b _ _ _ a.out.now _ b.part_of-p.ensures c.block_of-block.ensures h.holds (placed_as _ _ (λ n. sym (p.words n)) _ _ _ _ _ _ _ _ _ _ c.place_numbers.ensures); buf_len_2 = h.size }
