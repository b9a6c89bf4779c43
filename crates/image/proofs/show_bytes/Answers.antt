use native.Mathlib.Omega.{arith}
use mathlib.Core.Path.{sym, ap, ◌∙◌}
use Rattle.footprint.proofs.Laws.{flat}
use Rattle.block_reading.proofs.Shows.{held}
use Rattle.image_layout.specs.Numbers.{fault_at_in}
use Rattle.block_reading.specs.Faults.{fault_in}
use Rattle.interpolation.specs.declared.Kind.TheVariants.{Srgb8}
use Rattle.interpolation.specs.Expansion.{takes_hdr}
use Rattle.image_layout.proofs.Parts.{block_shown}
use lib.ListN.{length}
use Rattle.texel_fill.specs.inner.Everywhere.{everywhere}
use Rattle.image.proofs.Uniform.{uniform_held}
use Rattle.image.proofs.show_bytes.Goals as goal

pub decode_some_in-d-requires : goal.decode_some_in-d-requires
decode_some_in-d-requires c = let l = c.requires.sound_grid.footprint in (omega (arith, l), sym (flat _ l))

pub flood_bytes-requires : goal.flood_bytes-requires
flood_bytes-requires c = let p = c.requires in record { sound_grid = p.sound_grid; part_fits = c.part_of-p.ensures.fits; out_len = p.out_len }

pub returns-in-Uniform : goal.returns-in-Uniform
unfolding fault_at_in
returns-in-Uniform c = let v = c.in-Uniform in
    let d = c in
    let b = d in
    let a = b.args in
    let p = b.requires in
    let z = rw v.is at d.decode_some_in-d.ensures in record { value = sym z.0 ∙ ap (fault_in a.reading (takes_hdr Srgb8) _) b.block_of-block.ensures; tile = block_shown Srgb8 a.g a.reading p.sound_grid a.s.now a.b _ _ (everywhere v.u.texel) a.out.now _ b.part_of-p.ensures b.block_of-block.ensures (uniform_held a.reading _ Srgb8 _ _ z.2) c.flood_bytes.ensures; buf_len_2 = ap length z.1 ∙ p.buf_len }

pub returns-in-Buffered : goal.returns-in-Buffered
unfolding fault_at_in
returns-in-Buffered c = let d = c in
    let b = d in
    let a = b.args in
    let p = b.requires in
    let z = rw c.in-Buffered.is at c.decode_some_in-d.ensures in
    let h = held a.reading _ _ _ _ _ p.buf_len (z.1 p.buf_len) in record { value = sym z.0 ∙ ap (fault_in a.reading (takes_hdr Srgb8) _) c.block_of-block.ensures; tile = block_shown Srgb8 a.g a.reading p.sound_grid a.s.now a.b _ _ _ a.out.now _ b.part_of-p.ensures c.block_of-block.ensures h.holds c.place_bytes.ensures; buf_len_2 = h.size }
