use mathlib.Core.Path.{◌∙◌}
use native.Mathlib.Omega.{arith}
use Rattle.image_layout.proofs.Walking.{walking_start, walking_more, walking_done}
use Rattle.bc7_image.specs.Image.{bc7_numbers}
use Rattle.image_layout.proofs.Calls.{covered, sizes}
use Rattle.image_layout.proofs.Tallies.{tally_le}
use Rattle.bc7_image.proofs.decode.Goals as goal

pub overflow_mul-n : goal.overflow_mul-n
overflow_mul-n c = omega (arith, sizes _ c.requires.sound_grid)

pub loop-b-init : goal.loop-b-init
loop-b-init c = walking_start _ _ 64 _ (covered _ c.requires.sound_grid) _ _ c.blank-buf.ensures

pub show-e-requires : goal.show-e-requires
show-e-requires c = let l = c.loop-b in
    let p = c.requires in record { sound_grid = p.sound_grid; b_bound = c.loop-b-test.true; s_len = p.s_len; out_len = l.invariant.same ∙ p.out_len; buf_len = l.invariant.room; footprint_value = p.footprint_value }

pub note-t-requires : goal.note-t-requires
note-t-requires c = let l = c.loop-b in
    let p = c.requires in
    (tally_le _ l.b l.t l.invariant.tallied, omega (arith, sizes _ p.sound_grid))

pub loop-b-preserved : goal.loop-b-preserved
loop-b-preserved c = let k = c in
    let i = k in
    let l = i.loop-b in
    let p = i.requires in
    walking_more _ _ 64 _ (covered _ p.sound_grid) _ l.out l.buf l.t l.b _ _ _ _ l.invariant i.loop-b-test.true k.show-e.auto.out
    k.show-e.ensures.buf_len_2 k.show-e.ensures.tile k.show-e.ensures.value c.note-t.ensures

pub shape_of-out : goal.shape_of-out
shape_of-out c = c.loop-b.invariant.same

pub returns : goal.returns
unfolding bc7_numbers
returns c = let l = c.loop-b in
    let p = c.requires in let it = walking_done _ _ 64 _ (covered _ p.sound_grid) _ l.out l.buf l.t l.b p.out_len c.loop-b-test.false l.invariant in record { value = it.0; out_after = it.1 }
