-- Demand 2, volumes: a texel of a volume is its own block's, as the one-block call shows it, whatever all other blocks hold.
-- Assumes nothing.
use mathlib.Core.Path.{◌≡◌, sym, ap, ◌∙◌}
use mathlib.Core.List.{List}
use Prim.Native.Nat.{ℕ, ◌+◌, ◌*◌, ◌/◌, ◌%◌, ◌≤◌, ◌<◌}
use native.Mathlib.Nat.{mod-lt}
use native.Mathlib.Omega.{arith}
use lib.ListN.{length, get_or}
use Rattle.laws.specs.Table.{tab}
use Rattle.laws.proofs.Filling.{length_tab, get_or_tab}
use Rattle.bits.specs.Block.{number_of}
use Rattle.footprint.specs.Footprint.{width_of, height_of, depth_of, texels_of}
use Rattle.footprint.proofs.Laws.{bounds}
use Rattle.interpolation.specs.declared.Kind.{Kind}
use Rattle.interpolation.specs.Expansion.{shown_of}
use Rattle.block_reading.specs.declared.Reading.{Reading}
use Rattle.block_reading.specs.Shown.{channel_in, numbers_in}
use Rattle.block_reading.proofs.Shows.{number_at}
use Rattle.block_answer.specs.Told.{block_refusal}
use Rattle.block_answer.proofs.Laws.{accepted}
use Rattle.one_block.specs.Calls.{block_out_in}
use Rattle.one_block.proofs.Laws.{written}
use Rattle.image_size.specs.Sides.{blocks_across}
use Rattle.picture_regions.specs.Picture.{place}
use Rattle.picture_regions.proofs.Covering.{below_row, quotient, remainder}
use Rattle.image_layout.specs.Numbers as bytes
use Rattle.image_layout.specs.Numbers.{block_bytes}
use Rattle.image_layout.proofs.Blocks.{sixteen}
use Rattle.image_layout.proofs.Independence.{same_bytes}
use Rattle.volume_layout.specs.Rows.{layer_row, block_index_in}
use Rattle.volume_layout.specs.Numbers.{block_index, texels_in, volume_number_at_in, volume_numbers_in}
use Rattle.volume_layout.specs.Call.{blocks_of, volume_refusal, volume_out_in}
use Rattle.volume_layout.specs.OwnBlock.{OwnBlock, OwnBlockEverywhere}
use Rattle.image_size.proofs.Laws.{across_covers}
use Rattle.volume_layout.proofs.Sizes.{accept}
use Rattle.volume_layout.proofs.Blocks.{row_within}
use Rattle.volume_layout.proofs.Calls.{decoded_out}

module _ (fp : ℕ) (kind : Kind) (w h d x y z c : ℕ) (hx : x < w) (hy : y < h) (hz : z < d) (hc : c < 4) where
  -- a texel's block is one of the volume's
  pub index_in : fp < 24 → block_index fp w h x y z < blocks_of fp w h d
  unfolding block_index block_index_in blocks_of
  index_in f =
      let b = bounds fp f in
      let p : 0 < width_of fp = let k = b.width_least in omega arith in
      let q : 0 < height_of fp = let k = b.height_least in omega arith in
      let r : 0 < depth_of fp = let k = b.depth_least in omega arith in
      let m = across_covers w (width_of fp) x p hx in
      let n = across_covers h (height_of fp) y q hy in
      let k = below_row (blocks_across h (height_of fp)) (z / depth_of fp) (blocks_across d (depth_of fp)) (across_covers d (depth_of fp) z r hz) in
      let l = below_row (blocks_across w (width_of fp)) (z / depth_of fp * blocks_across h (height_of fp) + y / height_of fp) (blocks_across d (depth_of fp) * blocks_across h (height_of fp)) (omega arith) in
      omega arith

  -- its sixteen bytes are all there
  whole : (s old : List ℕ) → volume_refusal fp w h d (length s) (length old) ≡ 0 → 16 * block_index fp w h x y z + 16 ≤ length s
  whole s old e = let a = accept fp w h d (length s) (length old) e in let i = index_in a.footprint in let k = a.exact_bytes in omega arith

module _ (reading : Reading) (fp : ℕ) (kind : Kind) (w h d x y z c : ℕ) (hx : x < w) (hy : y < h) (hz : z < d) (hc : c < 4) where
  -- the volume's list by place
  pub number_of_lem : (s : List ℕ) → get_or (volume_numbers_in reading fp kind w h d s) (place w x (layer_row h y z) c) 0 ≡ volume_number_at_in reading fp kind w h s x y z c
  unfolding volume_numbers_in texels_in
  number_of_lem s =
      let q : ℕ = z * h + y in
      let k = below_row h z d hz in
      let r = below_row w q (d * h) (omega arith) in
      let e : (4 * (q * w + x) + c) / 4 ≡ q * w + x = omega arith in
      let m : (4 * (q * w + x) + c) % 4 ≡ c = omega arith in
      get_or_tab (λ n. volume_number_at_in reading fp kind w h s (n / 4 % w) (n / 4 / w % h) (n / 4 / w / h) (n % 4)) (4 * (d * h * w)) (place w x q c) 0 (omega arith)
      ∙ rw (e, m, quotient q w x hx, remainder q w x hx, quotient z h y hy, remainder z h y hy)

  -- what an accepted call leaves there: the number that the one-block call leaves, for the texel's block, at its place in the block
  volume_texel_lem : (s old block : List ℕ) → volume_refusal fp w h d (length s) (length old) ≡ 0 → length block ≡ 4 * texels_of fp
      → get_or (volume_out_in reading fp kind w h d s old) (place w x (layer_row h y z) c) 0
      ≡ get_or (block_out_in reading kind fp (block_bytes s (block_index fp w h x y z)) block)
      (place (width_of fp) (x % width_of fp) (layer_row (height_of fp) (y % height_of fp) (z % depth_of fp)) c) 0
  unfolding volume_number_at_in bytes.block_at numbers_in
  volume_texel_lem s old block e size =
      let f = (accept fp w h d (length s) (length old) e).footprint in
      let b = bounds fp f in
      let p : 0 < width_of fp = let k = b.width_least in omega arith in
      let q : 0 < height_of fp = let k = b.height_least in omega arith in
      let r : 0 < depth_of fp = let k = b.depth_least in omega arith in
      let own : List ℕ = block_bytes s (block_index fp w h x y z) in
      let i : ℕ = place (width_of fp) (x % width_of fp) (layer_row (height_of fp) (y % height_of fp) (z % depth_of fp)) c in
      let taken : block_refusal fp (length own) (length block) ≡ 0 =
      sym (accepted fp (length own) (length block) (omega arith) (sixteen s (block_index fp w h x y z) (whole fp kind w h d x y z c hx hy hz hc s old e)) size) in
      ap (λ (l : List ℕ). get_or l (place w x (layer_row h y z) c) 0) (sym (decoded_out reading fp kind w h d s old e))
      ∙ number_of_lem s
      ∙ sym (number_at reading fp kind (number_of own) (x % width_of fp) (y % height_of fp) (z % depth_of fp) c (mod-lt x p) (mod-lt y q) hc)
      ∙ sym (get_or_tab (λ k. shown_of kind (channel_in reading fp kind (number_of own) k)) (4 * texels_of fp) i 0 (row_within fp _ _ _ c (mod-lt x p) (mod-lt y q) (mod-lt z r) hc))
      ∙ ap (λ (l : List ℕ). get_or l i 0) (written reading kind fp own block taken)

  -- two volumes that agree on the texel's own sixteen bytes agree on the texel, whatever all other blocks hold
  same_texel : (s t old new : List ℕ) → volume_refusal fp w h d (length s) (length old) ≡ 0 → volume_refusal fp w h d (length t) (length new) ≡ 0
      → ((k : ℕ) → k < 16 → get_or s (16 * block_index fp w h x y z + k) 0 ≡ get_or t (16 * block_index fp w h x y z + k) 0)
      → get_or (volume_out_in reading fp kind w h d s old) (place w x (layer_row h y z) c) 0 ≡ get_or (volume_out_in reading fp kind w h d t new) (place w x (layer_row h y z) c) 0
  same_texel s t old new zs zt same =
      let i : ℕ = block_index fp w h x y z in
      let block : List ℕ = tab (λ k. 0) (4 * texels_of fp) in
      let size : length block ≡ 4 * texels_of fp = length_tab (λ k. 0) (4 * texels_of fp) in
      volume_texel_lem s old block zs size
      ∙ ap (λ (l : List ℕ). get_or (block_out_in reading kind fp l block) (place (width_of fp) (x % width_of fp) (layer_row (height_of fp) (y % height_of fp) (z % depth_of fp)) c) 0)
      (same_bytes s t i (whole fp kind w h d x y z c hx hy hz hc s old zs) (whole fp kind w h d x y z c hx hy hz hc t new zt) same)
      ∙ sym (volume_texel_lem t new block zt size)

  whole_block_lem : OwnBlock reading fp kind w h d x y z c
  whole_block_lem = record { index_in = index_in fp kind w h d x y z c hx hy hz hc; volume_texel_lem = volume_texel_lem; same_texel = same_texel }

-- ---- the whole

pub own_block : OwnBlockEverywhere
own_block = whole_block_lem
