-- Demand 2, images: a texel of an image is its own block's, as the one-block call shows it, whatever all other blocks hold.
-- Assumes nothing.
use mathlib.Core.Path.{◌≡◌, sym, ap, ◌∙◌, subst}
use mathlib.Core.List.{List}
use Prim.Native.Nat.{ℕ, ◌+◌, ◌*◌, ◌/◌, ◌%◌, ◌≤◌, ◌<◌}
use native.Mathlib.Nat.{mod-lt}
use native.Mathlib.Omega.{arith}
use lib.ListN.{length, get_or}
use lib.Seq.{ext_get_or}
use Rattle.laws.specs.Table.{tab}
use Rattle.laws.proofs.Filling.{length_tab, get_or_tab}
use Rattle.bits.specs.Block.{number_of}
use Rattle.footprint.specs.Footprint.{width_of, height_of, texels_of}
use Rattle.footprint.proofs.Laws.{flat_bounds}
use Rattle.interpolation.specs.declared.Kind.{Kind}
use Rattle.interpolation.specs.Expansion.{shown_of}
use Rattle.block_reading.specs.declared.Reading.{Reading}
use Rattle.block_reading.specs.Shown.{channel_in, numbers_in}
use Rattle.block_answer.specs.Told.{block_refusal}
use Rattle.one_block.specs.Calls.{block_out_in}
use Rattle.block_answer.proofs.Laws.{accepted}
use Rattle.one_block.proofs.Laws.{written}
use Rattle.image_layout.specs.Geometry.{block_index}
use Rattle.image_size.specs.Sides.{blocks_across, blocks_of}
use Rattle.image_layout.specs.Numbers.{block_bytes, block_at, image_number_at_in, image_numbers_in}
use Rattle.image_layout.specs.Call.{image_refusal, image_out_in}
use Rattle.picture_regions.specs.Picture.{place}
use Rattle.picture_regions.proofs.Covering.{place_within, below_row, quotient, remainder}
use Rattle.image_layout.specs.OwnBlock.{OwnBlock, OwnBlockEverywhere}
use Rattle.image_size.proofs.Laws.{across_covers}
use Rattle.image_layout.proofs.Blocks.{flat_texels, flat_number, sixteen, byte_of}
use Rattle.image_layout.proofs.Calls.{accept, decoded_out}

-- agreement byte by byte is agreement of the sixteen bytes
pub same_bytes : (s t : List ℕ) (b : ℕ) → 16 * b + 16 ≤ length s → 16 * b + 16 ≤ length t
    → ((k : ℕ) → k < 16 → get_or s (16 * b + k) 0 ≡ get_or t (16 * b + k) 0) → block_bytes s b ≡ block_bytes t b
same_bytes s t b hs ht same =
    ext_get_or 0 (block_bytes s b) (block_bytes t b) (sixteen s b hs ∙ sym (sixteen t b ht))
    (λ i l. let m : i < 16 = subst (λ (n : ℕ). i < n) (sixteen s b hs) l in byte_of s b hs i m ∙ same i m ∙ sym (byte_of t b ht i m))

module _ (fp : ℕ) (kind : Kind) (w h x y c : ℕ) (hx : x < w) (hy : y < h) (hc : c < 4) where
  -- a texel's block is one of the image's
  pub index_in : fp < 14 → block_index fp w x y < blocks_of fp w h
  unfolding block_index blocks_of
  index_in f =
      let b = flat_bounds fp f in
      let p : 0 < width_of fp = let z = b.width_least in omega arith in
      let q : 0 < height_of fp = let z = b.height_least in omega arith in
      let m = across_covers w (width_of fp) x p hx in
      let r = below_row (blocks_across w (width_of fp)) (y / height_of fp) (blocks_across h (height_of fp)) (across_covers h (height_of fp) y q hy) in
      omega arith

  -- its sixteen bytes are all there
  whole : (s old : List ℕ) → image_refusal fp w h (length s) (length old) ≡ 0 → 16 * block_index fp w x y + 16 ≤ length s
  whole s old z = let a = accept fp w h (length s) (length old) z in let i = index_in a.footprint in let e = a.exact_bytes in omega arith

module _ (reading : Reading) (fp : ℕ) (kind : Kind) (w h x y c : ℕ) (hx : x < w) (hy : y < h) (hc : c < 4) where
  -- the image's list by place
  pub number_of_lem : (s : List ℕ) → get_or (image_numbers_in reading fp kind w h s) (place w x y c) 0 ≡ image_number_at_in reading fp kind w s x y c
  unfolding image_numbers_in
  number_of_lem s =
      let r = below_row w y h hy in
      let e : (4 * (y * w + x) + c) / 4 ≡ y * w + x = omega arith in
      let m : (4 * (y * w + x) + c) % 4 ≡ c = omega arith in
      get_or_tab (λ n. image_number_at_in reading fp kind w s (n / 4 % w) (n / 4 / w) (n % 4)) (4 * (h * w)) (place w x y c) 0 (omega arith)
      ∙ rw (e, m, quotient y w x hx, remainder y w x hx)

  -- what an accepted call leaves there: the number that the one-block call leaves, for the texel's block, at its place in the block
  image_texel_lem : (s old block : List ℕ) → image_refusal fp w h (length s) (length old) ≡ 0 → length block ≡ 4 * texels_of fp
      → get_or (image_out_in reading fp kind w h s old) (place w x y c) 0
      ≡ get_or (block_out_in reading kind fp (block_bytes s (block_index fp w x y)) block) (place (width_of fp) (x % width_of fp) (y % height_of fp) c) 0
  unfolding image_number_at_in block_at numbers_in
  image_texel_lem s old block z size =
      let f = (accept fp w h (length s) (length old) z).footprint in
      let b = flat_bounds fp f in
      let p : 0 < width_of fp = let n = b.width_least in omega arith in
      let q : 0 < height_of fp = let n = b.height_least in omega arith in
      let bytes : List ℕ = block_bytes s (block_index fp w x y) in
      let i : ℕ = place (width_of fp) (x % width_of fp) (y % height_of fp) c in
      let taken : block_refusal fp (length bytes) (length block) ≡ 0 = sym (accepted fp (length bytes) (length block) (omega arith) (sixteen s (block_index fp w x y) (whole fp kind w h x y c hx hy hc s old z)) size) in
      ap (λ (l : List ℕ). get_or l (place w x y c) 0) (sym (decoded_out reading fp kind w h s old z))
      ∙ number_of_lem s
      ∙ sym (flat_number reading fp kind (number_of bytes) (x % width_of fp) (y % height_of fp) c (mod-lt x p) (mod-lt y q) hc)
      ∙ sym (get_or_tab (λ k. shown_of kind (channel_in reading fp kind (number_of bytes) k)) (4 * texels_of fp) i 0
      (rw (flat_texels fp f) (place_within (width_of fp) (height_of fp) _ _ c (mod-lt x p) (mod-lt y q) hc)))
      ∙ ap (λ (l : List ℕ). get_or l i 0) (written reading kind fp bytes block taken)

  -- two images that agree on the texel's own sixteen bytes agree on the texel, whatever all other blocks hold
  same_texel : (s t old new : List ℕ) → image_refusal fp w h (length s) (length old) ≡ 0 → image_refusal fp w h (length t) (length new) ≡ 0
      → ((k : ℕ) → k < 16 → get_or s (16 * block_index fp w x y + k) 0 ≡ get_or t (16 * block_index fp w x y + k) 0)
      → get_or (image_out_in reading fp kind w h s old) (place w x y c) 0 ≡ get_or (image_out_in reading fp kind w h t new) (place w x y c) 0
  same_texel s t old new zs zt same =
      let i : ℕ = block_index fp w x y in
      let block : List ℕ = tab (λ k. 0) (4 * texels_of fp) in
      let size : length block ≡ 4 * texels_of fp = length_tab (λ k. 0) (4 * texels_of fp) in
      image_texel_lem s old block zs size
      ∙ ap (λ (l : List ℕ). get_or (block_out_in reading kind fp l block) (place (width_of fp) (x % width_of fp) (y % height_of fp) c) 0)
      (same_bytes s t i (whole fp kind w h x y c hx hy hc s old zs) (whole fp kind w h x y c hx hy hc t new zt) same)
      ∙ sym (image_texel_lem t new block zt size)

  whole_block_lem : OwnBlock reading fp kind w h x y c
  whole_block_lem = record { index_in = index_in fp kind w h x y c hx hy hc; image_texel_lem = image_texel_lem; same_texel = same_texel }

-- ---- the whole

pub own_block : OwnBlockEverywhere
own_block = whole_block_lem
