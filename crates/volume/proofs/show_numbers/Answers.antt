use mathlib.Core.Path.{sym, ap, ◌∙◌}
use Rattle.interpolation.specs.Expansion.{takes_hdr}
use Rattle.block_reading.specs.Faults.{fault_in}
use Rattle.block_reading.proofs.Shows.{held}
use Rattle.picture_regions.proofs.Regions.{placed_as}
use Rattle.image_layout.specs.Numbers.{fault_at_in}
use Rattle.volume_layout.proofs.Parts.{block_shown}
use Rattle.volume.proofs.show_numbers.Goals as goal

pub returns : goal.returns
unfolding fault_at_in
returns c = let k = c in
    let d = k in
    let b = d in
    let a = b.args in
    let p = b.requires in
    let h = held a.reading _ _ _ _ _ p.buf_len (c.decode_in-e.ensures.out_after p.buf_len) in record {
      value = c.decode_in-e.ensures.value ∙ ap (fault_in a.reading (takes_hdr a.kind) _) c.block_of-block.ensures;
      tile = block_shown a.kind a.g a.reading p.sound_grid a.s.now a.b _ _ _ a.out.now _ p.b_bound b.part_of-p.ensures c.block_of-block.ensures h.holds
          (placed_as _ _ (λ n. sym (p.words n)) _ _ _ _ _ _ _ _ _ _ k.place_numbers.ensures);
      buf_len_2 = h.size;
    }
