-- What the image call in kind 1 shows of these blocks: in every texel the grey that is nearest to its own wanted grey. So it hangs on no other
-- wanted grey, and what edge blocks take beyond the image changes no texel that is shown.
-- Theorem: proofs/Shown.antt, `shown` (`CaptionShownEverywhere`).
-- Assumes nothing.
use Rattle.std.specs.Prelude.{◌≡◌, List, [], ◌∷◌, false, ℕ, ◌+◌, ◌*◌, ◌≤◌, ◌<◌, length, get_or}
use Rattle.interpolation.specs.declared.Kind.TheVariants.{Srgb8}
use Rattle.image_size.specs.Sides.{bad_side}
use Rattle.image_layout.specs.Call.{image_refusal, image_out}
use Rattle.picture_regions.specs.Picture.{place}
use Rattle.grey_caption.specs.Caption.{footprint, grey_of, best_weight}
use Rattle.caption_image.specs.Image.{caption_blocks}

-- the best grey between the ends for a wanted one
abbrev pub best_grey : ℕ → ℕ → ℕ → ℕ
best_grey e0 e1 wanted = grey_of e0 e1 (best_weight e0 e1 wanted)

-- at column x of row y, whatever the result bytes held
pub record CaptionShown (e0 e1 w h : ℕ) (wanted old : List ℕ) (x y : ℕ) : Type 0 where
  pub taken : image_refusal footprint w h (length (caption_blocks e0 e1 w h wanted)) (length old) ≡ 0
  pub texel : (c : ℕ) → c < 4
      → get_or (image_out footprint Srgb8 w h (caption_blocks e0 e1 w h wanted) old) (place w x y c) 0
      ≡ get_or (best_grey e0 e1 (get_or wanted (y * w + x) 0) ∷ best_grey e0 e1 (get_or wanted (y * w + x) 0) ∷ best_grey e0 e1 (get_or wanted (y * w + x) 0) ∷ 255 ∷ []) c 0

-- at every place of an image with sides that are not refused, with ends that are bytes
abbrev pub CaptionShownEverywhere : Type 0
CaptionShownEverywhere =
    (e0 e1 w h : ℕ) (wanted old : List ℕ) (x y : ℕ) → e0 ≤ 255 → e1 ≤ 255 → bad_side w ≡ false → bad_side h ≡ false → length old ≡ 4 * (h * w) → x < w → y < h
    → CaptionShown e0 e1 w h wanted old x y
