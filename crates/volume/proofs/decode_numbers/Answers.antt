use mathlib.Core.Path.{◌∙◌}
use Prim.Native.Nat.{◌-◌}
use native.Mathlib.Omega.{arith}
use Rattle.image_layout.proofs.Tallies.{tally_le}
use Rattle.volume_layout.proofs.Sizes.{products}
use Rattle.volume_layout.proofs.Parts.{decoding_start, decoding_more, decoding_done}
use Rattle.volume.proofs.decode_numbers.Goals as goal

pub loop-b-init : goal.loop-b-init
loop-b-init c = decoding_start _ _ _ c.requires.sound_grid _ _ _ c.blank-buf.ensures

pub show_numbers-e-requires : goal.show_numbers-e-requires
show_numbers-e-requires c = let l = c.loop-b in
    let p = c.requires in record { words = p.words; sound_grid = p.sound_grid; b_bound = c.loop-b-test.true; s_len = p.s_len; out_len = l.invariant.same ∙ p.out_len; buf_len = l.invariant.room }

pub note-t-requires : goal.note-t-requires
note-t-requires c = let l = c.loop-b in
    let p = c.requires in
    (tally_le _ l.b l.t l.invariant.tallied, omega (arith, products _ p.sound_grid))

pub loop-b-preserved : goal.loop-b-preserved
loop-b-preserved c = let k = c in
    let i = k in
    let l = i.loop-b in
    let p = c.requires in
    decoding_more _ _ _ p.sound_grid _ _ l.out l.buf l.t l.b _ _ _ _ l.invariant i.loop-b-test.true k.show_numbers-e.auto.out
    k.show_numbers-e.ensures.buf_len_2 k.show_numbers-e.ensures.tile k.show_numbers-e.ensures.value c.note-t.ensures

pub returns : goal.returns
returns c = let l = c.loop-b in
    let p = c.requires in let it = decoding_done _ _ _ p.sound_grid _ _ l.out l.buf l.t l.b p.out_len c.loop-b-test.false l.invariant in record { value = it.0; out_after = it.1 }

pub overflow_mul-n : goal.overflow_mul-n
overflow_mul-n c = omega (arith, products _ c.requires.sound_grid)

pub overflow_mul-n-2 : goal.overflow_mul-n-2
overflow_mul-n-2 c = omega (arith, products _ c.requires.sound_grid)

pub shape_of-out : goal.shape_of-out
shape_of-out c = c.loop-b.invariant.same
