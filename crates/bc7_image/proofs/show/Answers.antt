use mathlib.Core.Path.{ap, ◌∙◌}
use Prim.Native.Nat.{ℕ}
use mathlib.Core.List.{List}
use lib.ListN.{length}
use Rattle.bc7_block.specs.Reading.{fault_of}
use Rattle.bc7_image.specs.Image.{bc7_fault_at}
use Rattle.bc7_image.proofs.Tiles.{tile_bc7, bytes_64}
use Rattle.bc7_image.proofs.show.Goals as goal

pub returns : goal.returns
unfolding bc7_fault_at
returns c = let k = c in
    let d = k in
    let b = d in
    let a = b.args in
    let p = b.requires in record { value = c.decode_into-e.ensures.value ∙ ap fault_of c.block_of-block.ensures; tile = tile_bc7 a.g p.sound_grid p.footprint_value a.s.now a.b _ _ _ a.out.now _ b.part_of-p.ensures c.block_of-block.ensures c.decode_into-e.ensures.out_after k.place.ensures; buf_len_2 = ap (λ (l : List ℕ). length l) c.decode_into-e.ensures.out_after ∙ bytes_64 _ }
