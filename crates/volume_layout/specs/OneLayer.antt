-- 02, h: the volume picture call takes flat footprints too, and their blocks are one layer thick. So with a depth of 1 it is the image call.
-- Theorem: proofs/OneLayer.antt, `flat_volume`.
-- Assumes nothing.
use Rattle.std.specs.Prelude.{◌≡◌, ℕ, ◌<◌, List}
use Rattle.interpolation.specs.declared.Kind.{Kind}
use Rattle.block_reading.specs.declared.Reading.{Reading}
use Rattle.image_layout.specs.Call.{image_refusal, image_told_in, image_out_in}
use Rattle.volume_layout.specs.Call.{volume_refusal, volume_told_in, volume_out_in}

pub record FlatVolume : Type 0 where
  pub refusal : (fp : ℕ) → fp < 14 → (w h bytes places : ℕ) → volume_refusal fp w h 1 bytes places ≡ image_refusal fp w h bytes places
  pub told : (fp : ℕ) → fp < 14 → (reading : Reading) (kind : Kind) (w h : ℕ) (s : List ℕ) (places : ℕ)
      → volume_told_in reading fp kind w h 1 s places ≡ image_told_in reading fp kind w h s places
  pub out : (fp : ℕ) → fp < 14 → (reading : Reading) (kind : Kind) (w h : ℕ) (s old : List ℕ)
      → volume_out_in reading fp kind w h 1 s old ≡ image_out_in reading fp kind w h s old
