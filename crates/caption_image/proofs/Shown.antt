-- What the image call shows of an image of captions.
-- Assumes nothing.
use mathlib.Core.Path.{◌≡◌, sym, ap, ap₂, ◌∙◌, subst}
use mathlib.Core.Bool.{false}
use mathlib.Core.List.{List, [], ◌∷◌}
use Prim.Native.Nat.{ℕ, ◌+◌, ◌-◌, ◌*◌, ◌/◌, ◌%◌, ◌≤◌, ◌<◌, min}
use native.Mathlib.Nat.{min-eq_left}
use native.Mathlib.Omega.{arith}
use lib.ListN.{length, get_or}
use lib.Seq.{ext_get_or}
use Rattle.laws.specs.Table.{tab}
use Rattle.laws.proofs.Filling.{get_or_tab, length_tab}
use Rattle.interpolation.specs.declared.Kind.TheVariants.{Srgb8}
use Rattle.footprint.specs.Footprint.{footprints, width_of, height_of, depth_of, texels_of}
use Rattle.image_size.specs.Sides.{bad_side, blocks_across, blocks_of}
use Rattle.image_size.proofs.Laws.{across_covers}
use Rattle.image_layout.specs.Call as layout
use Rattle.image_layout.specs.Geometry.{block_index}
use Rattle.image_layout.specs.Numbers.{block_bytes}
use Rattle.picture_regions.specs.Picture.{place}
use Rattle.picture_regions.proofs.Covering.{quotient, remainder}
use Rattle.image_layout.proofs.Blocks.{sixteen, byte_of}
use Rattle.image_layout.proofs.Calls.{refused_none}
use Rattle.image_layout.proofs.Independence.{index_in, own_block}
use Rattle.block_reading.specs.declared.Reading.TheVariants.{Ordinary}
use Rattle.grey_caption.specs.Caption.{footprint, weight_for, caption_of}
use Rattle.grey_caption.specs.Best.{shown_by, GreysShown}
use Rattle.grey_caption.proofs.Demand.{chosen, shows}
use Rattle.caption_image.specs.Image.{wanted_at, wanted_of, caption_blocks}
use Rattle.caption_image.specs.Shown.{best_grey, CaptionShown, CaptionShownEverywhere}
use Rattle.caption_image.proofs.Laws.{byte_at}

module _ (e0 e1 w h : ℕ) (wanted : List ℕ) where
  blocks_length : length (caption_blocks e0 e1 w h wanted) ≡ 16 * blocks_of footprint w h
  unfolding caption_blocks
  blocks_length = length_tab _ (16 * blocks_of footprint w h)

  -- block b is the caption of its own wanted greys
  block_is : (b : ℕ) → b < blocks_of footprint w h → length (caption_of e0 e1 (wanted_of w h wanted b)) ≡ 16
      → block_bytes (caption_blocks e0 e1 w h wanted) b ≡ caption_of e0 e1 (wanted_of w h wanted b)
  unfolding caption_blocks
  block_is b l n =
      let s = caption_blocks e0 e1 w h wanted in
      let k : 16 * b + 16 ≤ length s = omega (arith, blocks_length) in
      ext_get_or 0 (block_bytes s b) (caption_of e0 e1 (wanted_of w h wanted b)) (sixteen s b k ∙ sym n)
      (λ i m. let j : i < 16 = subst (λ (x : ℕ). i < x) (sixteen s b k) m in
      let p : (16 * b + i) / 16 ≡ b = omega arith in
      let q : (16 * b + i) % 16 ≡ i = omega arith in
      byte_of s b k i j ∙ get_or_tab (byte_at e0 e1 w h wanted) (16 * blocks_of footprint w h) (16 * b + i) 0 (omega arith) ∙ rw (p, q))

  module _ (x y : ℕ) (hx : x < w) (hy : y < h) where
    -- the wanted grey of a texel at its place in its block
    wanted_is : get_or (wanted_of w h wanted (block_index footprint w x y)) (4 * (y % 4) + x % 4) 0 ≡ get_or wanted (y * w + x) 0
    unfolding wanted_of wanted_at block_index width_of height_of footprints
    wanted_is =
        let across = blocks_across w 4 in
        let l : x / 4 < across = across_covers w 4 x (omega arith) hx in
        let a : (4 * (y % 4) + x % 4) % 4 ≡ x % 4 = omega arith in
        let b : (4 * (y % 4) + x % 4) / 4 ≡ y % 4 = omega arith in
        let c : 4 * (x / 4) + x % 4 ≡ x = omega arith in
        let d : 4 * (y / 4) + y % 4 ≡ y = omega arith in
        let e : min x (w - 1) ≡ x = min-eq_left (omega arith) in
        let f : min y (h - 1) ≡ y = min-eq_left (omega arith) in
        get_or_tab (λ i. wanted_at w h wanted (4 * (block_index footprint w x y % across) + i % 4) (4 * (block_index footprint w x y / across) + i / 4)) 16 (4 * (y % 4) + x % 4) 0 (omega arith)
        ∙ rw (a, b, quotient (y / 4) across (x / 4) l, remainder (y / 4) across (x / 4) l, c, d, e, f)

    module _ (h0 : e0 ≤ 255) (h1 : e1 ≤ 255) (wide : bad_side w ≡ false) (high : bad_side h ≡ false) (old : List ℕ) (size : length old ≡ 4 * (h * w)) where
      taken : layout.image_refusal footprint w h (length (caption_blocks e0 e1 w h wanted)) (length old) ≡ 0
      taken = refused_none footprint w h _ _ (omega arith) wide high blocks_length size

      -- 64 bytes for a block
      abbrev room : List ℕ
      room = tab (λ k. 0) 64

      -- its block
      abbrev index : ℕ
      index = block_index footprint w x y

      abbrev weights : ℕ → ℕ
      weights = weight_for e0 e1 (wanted_of w h wanted index)

      room_size : length room ≡ 64
      room_size = length_tab (λ k. 0) 64

      caption_shows : GreysShown e0 e1 weights room
      caption_shows = shows e0 e1 h0 h1 weights (chosen e0 e1 h0 h1 (wanted_of w h wanted index)) room room_size

      texel : (c : ℕ) → c < 4
          → get_or (layout.image_out footprint Srgb8 w h (caption_blocks e0 e1 w h wanted) old) (place w x y c) 0
          ≡ get_or (best_grey e0 e1 (get_or wanted (y * w + x) 0) ∷ best_grey e0 e1 (get_or wanted (y * w + x) 0) ∷ best_grey e0 e1 (get_or wanted (y * w + x) 0) ∷ 255 ∷ []) c 0
      unfolding texels_of width_of height_of depth_of footprints caption_of weight_for
      texel c l =
          let i = 4 * (y % 4) + x % 4 in
          let a : place 4 (x % 4) (y % 4) c ≡ 4 * i + c = omega arith in
          (own_block Ordinary footprint Srgb8 w h x y c hx hy l).image_texel_lem (caption_blocks e0 e1 w h wanted) old room taken room_size
          ∙ ap₂ (λ (b : List ℕ) (k : ℕ). get_or (shown_by room b) k 0) (block_is index (index_in footprint Srgb8 w h x y c hx hy l (omega arith)) caption_shows.sixteen) a
          ∙ caption_shows.texel i c (omega arith) l
          ∙ ap (λ (n : ℕ). get_or (best_grey e0 e1 n ∷ best_grey e0 e1 n ∷ best_grey e0 e1 n ∷ 255 ∷ []) c 0) wanted_is

      at_place : CaptionShown e0 e1 w h wanted old x y
      at_place = record { taken = taken; texel = texel }

pub shown : CaptionShownEverywhere
shown e0 e1 w h wanted old x y h0 h1 wide high size hx hy = at_place e0 e1 w h wanted x y hx hy h0 h1 wide high old size
