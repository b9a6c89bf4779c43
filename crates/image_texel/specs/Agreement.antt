-- 02, f: "show for every place that it agrees with the picture call". Theorem: proofs/Agree.antt, `agrees`
-- (`AsPictureEverywhere`).
-- Assumes nothing.
use Rattle.std.specs.Prelude.{◌≡◌, ℕ, ◌<◌, List, length, get_or}
use Rattle.interpolation.specs.declared.Kind.{Kind}
use Rattle.texel.specs.Meaning.{channel}
use Rattle.image_size.specs.Sides.{blocks_of}
use Rattle.image_layout.specs.Geometry.{block_index}
use Rattle.image_layout.specs.Numbers.{fault_at}
use Rattle.image_layout.specs.Call.{image_refusal, image_out}
use Rattle.picture_regions.specs.Picture.{place}
use Rattle.image_texel.specs.Asking.{asked_at}

-- at a place of a picture that a picture call takes, with `old` in the call's buffer
pub record AsPicture (fp : ℕ) (kind : Kind) (w h x y : ℕ) (s old : List ℕ) : Type 0 where
  -- the place may be asked
  pub not_refused : (asked_at fp w h s kind x y).refusal ≡ 0
  -- the fault is that of the texel's block, which is one of the picture's
  pub in_picture : block_index fp w x y < blocks_of fp w h
  pub its_fault : (asked_at fp w h s kind x y).fault ≡ fault_at fp kind s (block_index fp w x y)
  -- each channel is the number that the picture call leaves for that channel of that place
  pub its_texel : (c : ℕ) → c < 4 → channel (asked_at fp w h s kind x y).texel c ≡ get_or (image_out fp kind w h s old) (place w x y c) 0

-- "for every place"
abbrev pub AsPictureEverywhere : Type 0
AsPictureEverywhere =
    (fp : ℕ) (kind : Kind) (w h x y : ℕ) (s old : List ℕ) → x < w → y < h → image_refusal fp w h (length s) (length old) ≡ 0 → AsPicture fp kind w h x y s old
