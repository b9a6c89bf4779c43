-- A whole image (01: picture) of best grey captions: 02, n, for every block of it.
-- Assumes nothing.
use Rattle.std.specs.Prelude.{ℕ, ◌+◌, ◌-◌, ◌*◌, ◌/◌, ◌%◌, min, not, List, [], ◌∷◌, eqb, length, get_or}
use Rattle.laws.specs.Choice.{pick, either}
use Rattle.laws.specs.Reasons.{when, first_of}
use Rattle.laws.specs.Table.{tab}
use Rattle.image_size.specs.Sides.{bad_side, blocks_across, blocks_of}
use Rattle.grey_caption.specs.Caption.{footprint, caption_of}

-- 01, "Numbers told to the caller", of a call that is lent so many bytes for blocks and so many wanted greys: 3 "a picture side is 0 or above"
-- the limit; 4 "block bytes not exactly 16 for each block"; 5 wanted greys not exactly one for each texel. 0 for none.
unfoldable pub caption_image_refusal : ℕ → ℕ → ℕ → ℕ → ℕ
caption_image_refusal w h bytes greys =
    first_of
    (when (either (bad_side w) (bad_side h)) 3
    ∷ when (not (eqb bytes (16 * blocks_of footprint w h))) 4
    ∷ when (not (eqb greys (h * w))) 5
    ∷ [])

-- the nearest place within a side
abbrev pub nearest : ℕ → ℕ → ℕ
nearest side x = min x (side - 1)

-- the wanted grey in column x of row y, rows first; beyond the image the nearest one's
unfoldable pub wanted_at : ℕ → ℕ → List ℕ → ℕ → ℕ → ℕ
wanted_at w h wanted x y = get_or wanted (nearest h y * w + nearest w x) 0

-- the sixteen wanted greys of block b, "blocks in raster order"
unfoldable pub wanted_of : ℕ → ℕ → List ℕ → ℕ → List ℕ
unfolding tab wanted_at
wanted_of w h wanted b =
    let across = blocks_across w 4 in
    tab (λ i. wanted_at w h wanted (4 * (b % across) + i % 4) (4 * (b / across) + i / 4)) 16

-- all blocks, sixteen bytes each: each one the caption of its own wanted greys
unfoldable pub caption_blocks : ℕ → ℕ → ℕ → ℕ → List ℕ → List ℕ
unfolding tab wanted_of caption_of
caption_blocks e0 e1 w h wanted = tab (λ n. get_or (caption_of e0 e1 (wanted_of w h wanted (n / 16))) (n % 16) 0) (16 * blocks_of footprint w h)

-- the lent blocks after the call: "nothing is written" on a refusal
unfoldable pub caption_image_out : ℕ → ℕ → ℕ → ℕ → List ℕ → List ℕ → List ℕ
unfolding caption_blocks caption_image_refusal
caption_image_out e0 e1 w h wanted old = pick (eqb (caption_image_refusal w h (length old) (length wanted)) 0) (caption_blocks e0 e1 w h wanted) old

-- ---- one block over lent lists, for callers whose lists have their lengths at run time only

-- 4 block bytes not exactly 16, 5 wanted greys not exactly 16; 0 for neither
unfoldable pub caption_block_refusal : ℕ → ℕ → ℕ
caption_block_refusal bytes greys = first_of (when (not (eqb bytes 16)) 4 ∷ when (not (eqb greys 16)) 5 ∷ [])

unfoldable pub caption_block_out : ℕ → ℕ → List ℕ → List ℕ → List ℕ
unfolding caption_of caption_block_refusal
caption_block_out e0 e1 wanted old = pick (eqb (caption_block_refusal (length old) (length wanted)) 0) (caption_of e0 e1 wanted) old
