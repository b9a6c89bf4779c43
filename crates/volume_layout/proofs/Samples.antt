-- Blocks and places of texels as counted one after another (outside/tables/make_volumes.py), and each refusal at both ends of its limits.
-- Assumes nothing.
use mathlib.Core.Path.{◌≡◌, refl}
use mathlib.Core.List.{List, [], ◌∷◌}
use Prim.Native.Nat.{ℕ, ◌*◌}
use Rattle.image_size.specs.Sides.{side_limit, bad_side, blocks_across}
use Rattle.footprint.specs.Footprint.{footprints, width_of, height_of, depth_of}
use Rattle.picture_regions.specs.Picture.{place}
use Rattle.volume_layout.specs.Rows.{layer_row, block_index_in}
use Rattle.volume_layout.specs.Numbers.{texels_in}
use Rattle.volume_layout.specs.Call.{depth_limit, bad_depth, bad_sizes, blocks_of, volume_refusal}

-- a texel's number or block, at ten texels of a volume whose last is at x, y, z
abbrev ten : (ℕ → ℕ → ℕ → ℕ) → ℕ → ℕ → ℕ → List ℕ
ten f x y z = f 0 0 0 ∷ f x 0 0 ∷ f 0 y 0 ∷ f 0 0 z ∷ f x y 0 ∷ f x 0 z ∷ f 0 y z ∷ f x y z ∷ f 4 3 1 ∷ f 5 6 2 ∷ []

-- in a volume of these sides
abbrev block : ℕ → ℕ → ℕ → ℕ → ℕ → ℕ → ℕ
block fp w h x y z = block_index_in (blocks_across w (width_of fp)) (blocks_across h (height_of fp)) (width_of fp) (height_of fp) (depth_of fp) x y z

abbrev number : ℕ → ℕ → ℕ → ℕ → ℕ → ℕ
number w h x y z = place w x (layer_row h y z) 0

-- 13 x 11 x 7 at 4x3x3, and 7 x 9 x 3 at 5x4, one layer thick
pub layouts :
    (ten (block 15 13 11) 12 10 6 ≡ 0 ∷ 3 ∷ 12 ∷ 32 ∷ 15 ∷ 35 ∷ 44 ∷ 47 ∷ 5 ∷ 9 ∷ [])
    × (ten (number 13 11) 12 10 6 ≡ 0 ∷ 48 ∷ 520 ∷ 3432 ∷ 568 ∷ 3480 ∷ 3952 ∷ 4000 ∷ 744 ∷ 1476 ∷ [])
    × (ten (block 1 7 9) 6 8 2 ≡ 0 ∷ 1 ∷ 4 ∷ 12 ∷ 5 ∷ 13 ∷ 16 ∷ 17 ∷ 6 ∷ 15 ∷ [])
    × (ten (number 7 9) 6 8 2 ≡ 0 ∷ 24 ∷ 224 ∷ 504 ∷ 248 ∷ 528 ∷ 728 ∷ 752 ∷ 352 ∷ 692 ∷ [])
unfolding block_index_in blocks_across width_of height_of depth_of footprints
layouts = (refl, refl, refl, refl)

-- of exact lengths, 48 blocks and 4,004 numbers; then refused by 5, 4, 3 and 1, the lower number first
pub refusals :
    (volume_refusal 15 13 11 7 (16 * 48) 4004 ≡ 0) × (volume_refusal 1 7 9 3 (16 * 18) 756 ≡ 0)
    × (volume_refusal 15 13 11 7 (16 * 48) 4003 ≡ 5) × (volume_refusal 15 13 11 7 (16 * 48) 4008 ≡ 5)
    × (volume_refusal 15 13 11 7 (16 * 47) 4003 ≡ 4) × (volume_refusal 15 13 11 7 (16 * 49) 4004 ≡ 4)
    × (volume_refusal 23 6 6 2048 (16 * 342) (4 * 73728) ≡ 0) × (volume_refusal 23 6 6 2049 (16 * 342) (4 * 73764) ≡ 3)
    × (volume_refusal 23 6 6 0 0 0 ≡ 3) × (volume_refusal 23 0 6 6 0 0 ≡ 3) × (volume_refusal 23 6 16385 6 0 0 ≡ 3) × (volume_refusal 24 0 6 6 0 0 ≡ 1)
unfolding volume_refusal bad_sizes bad_side bad_depth side_limit depth_limit blocks_of texels_in blocks_across width_of height_of depth_of footprints
refusals = (refl, refl, refl, refl, refl, refl, refl, refl, refl, refl, refl, refl)
