-- A volume of flat blocks with a depth of 1 is a flat picture.
-- Assumes nothing.
use mathlib.Core.Path.{◌≡◌, refl}
use mathlib.Core.Bool.{Bool, true, false}
use mathlib.Core.List.{List}
use Prim.Native.Nat.{ℕ, zero, suc, ◌*◌, ◌/◌, ◌%◌, ◌<◌}
use native.Mathlib.Nat.{div-lt_iff_lt-mul, div-eq_of_lt, mod-eq_of_lt, not-suc-le-zero, zero-mul, zero-add, one-mul, mul-zero}
use native.Mathlib.Omega.{arith}
use lib.ListN.{length}
use borrow.Author.Tests.{le-ltb}
use Rattle.laws.specs.Choice.{either}
use Rattle.laws.proofs.Filling.{tab_ext}
use Rattle.footprint.proofs.Laws.{flat_depth}
use Rattle.interpolation.specs.declared.Kind.{Kind}
use Rattle.block_reading.specs.declared.Reading.{Reading}
use Rattle.image_size.specs.Sides as size
use Rattle.image_layout.specs.Geometry as flat
use Rattle.image_layout.specs.Numbers.{image_number_at_in, image_numbers_in}
use Rattle.image_layout.specs.Call.{image_refusal, image_tally_in, image_told_in, image_out_in}
use Rattle.volume_layout.specs.Rows.{block_index_in}
use Rattle.volume_layout.specs.Numbers.{block_index, texels_in, volume_number_at_in, volume_numbers_in}
use Rattle.volume_layout.specs.Call.{depth_limit, bad_depth, bad_sizes, blocks_of, volume_refusal, volume_tally_in, volume_told_in, volume_out_in}
use Rattle.volume_layout.specs.OneLayer.{FlatVolume}

either_false : (b : Bool) → either b false ≡ b
either_false true = refl
either_false false = refl

sizes : (w h : ℕ) → bad_sizes w h 1 ≡ either (size.bad_side w) (size.bad_side h)
unfolding bad_sizes bad_depth depth_limit
sizes w h = rw (either_false (size.bad_side h))

texels : (w h : ℕ) → texels_in w h 1 ≡ h * w
unfolding texels_in
texels w h = rw (one-mul h)

module _ (fp : ℕ) (f : fp < 14) where
  blocks : (w h : ℕ) → blocks_of fp w h 1 ≡ size.blocks_of fp w h
  unfolding blocks_of size.blocks_of size.blocks_across
  blocks w h = rw (flat_depth fp f, one-mul)

  refusal : (w h bytes places : ℕ) → volume_refusal fp w h 1 bytes places ≡ image_refusal fp w h bytes places
  unfolding volume_refusal image_refusal
  refusal w h bytes places = rw (le-ltb 23 fp (omega arith), le-ltb 13 fp (omega arith), sizes w h, blocks w h, texels w h)

  index : (w h x y : ℕ) → block_index fp w h x y 0 ≡ flat.block_index fp w x y
  unfolding block_index block_index_in flat.block_index
  index w h x y = rw (flat_depth fp f, zero-mul, zero-add)

  module _ (reading : Reading) (kind : Kind) (w h : ℕ) where
    told : (s : List ℕ) (places : ℕ) → volume_told_in reading fp kind w h 1 s places ≡ image_told_in reading fp kind w h s places
    unfolding volume_told_in image_told_in volume_tally_in image_tally_in
    told s places = rw (refusal w h (length s) places, blocks w h)

    number : (s : List ℕ) (x y c : ℕ) → volume_number_at_in reading fp kind w h s x y 0 c ≡ image_number_at_in reading fp kind w s x y c
    unfolding volume_number_at_in image_number_at_in
    number s x y c = rw (flat_depth fp f, index w h x y)

    numbers : (s : List ℕ) → volume_numbers_in reading fp kind w h 1 s ≡ image_numbers_in reading fp kind w h s
    unfolding volume_numbers_in image_numbers_in
    numbers s =
        rw (texels w h)
        (tab_ext (λ n. volume_number_at_in reading fp kind w h s (n / 4 % w) (n / 4 / w % h) (n / 4 / w / h) (n % 4))
        (λ n. image_number_at_in reading fp kind w s (n / 4 % w) (n / 4 / w) (n % 4)) 0 (4 * (h * w)) (λ n l. at n (wide w n l) l))
      where
        wide : (v n : ℕ) → n < 4 * (h * v) → 0 < v
        wide zero n l = absurd (not-suc-le-zero (rw (mul-zero h) at l))
        wide (suc v) n l = omega arith

        at : (n : ℕ) → 0 < w → n < 4 * (h * w)
            → volume_number_at_in reading fp kind w h s (n / 4 % w) (n / 4 / w % h) (n / 4 / w / h) (n % 4) ≡ image_number_at_in reading fp kind w s (n / 4 % w) (n / 4 / w) (n % 4)
        at n p l =
            let t : n / 4 < h * w = omega arith in
            let q : n / 4 / w < h = (div-lt_iff_lt-mul p).1 t in
            rw (mod-eq_of_lt q, div-eq_of_lt q) (number s (n / 4 % w) (n / 4 / w) (n % 4))

    out : (s old : List ℕ) → volume_out_in reading fp kind w h 1 s old ≡ image_out_in reading fp kind w h s old
    unfolding volume_out_in image_out_in
    out s old = rw (refusal w h (length s) (length old), numbers s)

pub flat_volume : FlatVolume
flat_volume = record { refusal = refusal; told = told; out = out }
