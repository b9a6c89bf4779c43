use mathlib.Core.Path.{ap, ◌∙◌}
use Rattle.interpolation.specs.declared.Kind.TheVariants.{Srgb8}
use Rattle.interpolation.specs.Expansion.{takes_hdr}
use Rattle.block_reading.specs.Faults.{fault_in}
use Rattle.block_reading.proofs.Shows.{held}
use Rattle.image_layout.specs.Numbers.{fault_at_in}
use Rattle.volume_layout.proofs.Parts.{block_shown}
use Rattle.volume.proofs.show_bytes.Goals as goal

pub returns : goal.returns
unfolding fault_at_in
returns c = let k = c in
    let d = k in
    let b = d in
    let a = b.args in
    let p = b.requires in
    let h = held a.reading _ _ _ _ _ p.buf_len (c.decode_in-e.ensures.out_after p.buf_len) in record {
      value = c.decode_in-e.ensures.value ∙ ap (fault_in a.reading (takes_hdr Srgb8) _) c.block_of-block.ensures;
      tile = block_shown Srgb8 a.g a.reading p.sound_grid a.s.now a.b _ _ _ a.out.now _ p.b_bound b.part_of-p.ensures c.block_of-block.ensures h.holds
          k.place_bytes.ensures;
      buf_len_2 = h.size;
    }
