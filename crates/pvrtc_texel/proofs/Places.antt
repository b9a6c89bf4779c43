-- Where a texel's bytes lie in an image.
-- Assumes nothing.
use mathlib.Core.Path.{◌≡◌, ap, ◌∙◌}
use mathlib.Core.List.{List}
use Prim.Native.Nat.{ℕ, ◌+◌, ◌*◌, ◌/◌, ◌%◌, ◌≤◌, ◌<◌}
use native.Mathlib.Nat.{mul_comm, mul-le-mul_right, mod-eq_of_lt, mul-add-div_right, mul-add-mod_self_right, div-eq_of_lt, add-zero, add-mul, one-mul}
use native.Mathlib.Omega.{arith}
use lib.ListN.{get_or}
use Rattle.laws.proofs.Filling.{get_or_tab}
use Rattle.pvrtc_texel.specs.Image.{side_bits, image_texel, image_bytes}

-- number k of row y, of an image W texels wide: its column, row and channel
pub row_place : (y W k : ℕ) → k < 4 * W → let n = 4 * (y * W) + k in (n / 4 % W ≡ k / 4) × (n / 4 / W ≡ y) × (n % 4 ≡ k % 4)
row_place y W k h =
    let l : k / 4 < W = omega arith in
    let d : (4 * (y * W) + k) / 4 ≡ y * W + k / 4 = omega arith in (
      ap (λ (n : ℕ). n % W) d ∙ mul-add-mod_self_right y W (k / 4) ∙ mod-eq_of_lt l,
      ap (λ (n : ℕ). n / W) d ∙ mul-add-div_right (omega arith) y (k / 4) ∙ (rw (div-eq_of_lt l) (add-zero y)),
      omega arith,
    )

-- one row more
pub rows_more : (y W : ℕ) → 4 * (y * W) + 4 * W ≡ 4 * ((y + 1) * W)
rows_more y W = omega (arith, add-mul y 1 W, one-mul W)

-- a row lies inside the image
pub row_inside : (W H y : ℕ) → y < H → 4 * (y * W) + 4 * W ≤ 4 * (W * H)
row_inside W H y h =
    let l : (y + 1) * W ≤ H * W = mul-le-mul_right W (omega arith) in
    omega (arith, rows_more y W, mul_comm H W, l)

-- the bytes of an image are those of its texels, rows first
pub byte_at : (w h : ℕ) (s : List ℕ) (x y c : ℕ) → x < w → y < h → c < 4
    → get_or (image_bytes w h s) (4 * (y * w) + (4 * x + c)) 0 ≡ image_texel (side_bits w) (side_bits h) s x y c
unfolding image_bytes
byte_at w h s x y c hx hy hc =
    let k : 4 * x + c < 4 * w = omega arith in
    let p = row_place y w (4 * x + c) k in
    let ex : (4 * x + c) / 4 ≡ x = omega arith in
    let ec : (4 * x + c) % 4 ≡ c = omega arith in
    get_or_tab _ (4 * (w * h)) (4 * (y * w) + (4 * x + c)) 0 (omega (arith, row_inside w h y hy)) ∙ rw (p.0, p.1, p.2, ex, ec)
