-- What a block shows, by the place of a number in its list, and the error colours in numbers.
-- Assumes nothing.
use mathlib.Core.Path.{◌≡◌, refl, sym, ap, ◌∙◌}
use Prim.Native.Nat.{ℕ, ◌+◌, ◌*◌, ◌/◌, ◌%◌, ◌<◌}
use native.Mathlib.Nat.{mul_comm, mul_assoc}
use native.Mathlib.Omega.{arith}
use lib.Arith.{digits_lt, digits_div, digits_mod}
use Rattle.laws.specs.Table.{tab}
use Rattle.laws.proofs.Filling.{length_tab, get_or_tab}
use Rattle.footprint.specs.Footprint.{width_of, height_of, depth_of, texels_of}
use Rattle.interpolation.specs.declared.Kind.{Kind}
use Rattle.interpolation.specs.Expansion.{shown_of}
use Rattle.texel.specs.Meaning.{error_texel, channel, shown_channel}
use Rattle.texel.specs.BlockTexel.{block_number_at, block_channel, block_numbers}
use Rattle.texel.specs.Order.{BlockOrder}

-- the number at a place of a block, by its place in the block's list of numbers
pub number_at : (fp : ℕ) (kind : Kind) (B x y z c : ℕ) → x < width_of fp → y < height_of fp → c < 4
    → shown_of kind (block_channel fp kind B (4 * ((z * height_of fp + y) * width_of fp + x) + c)) ≡ block_number_at fp kind B x y z c
unfolding block_number_at block_channel shown_channel
number_at fp kind B x y z c hx hy hc =
    let q = z * height_of fp + y in
    let e : (4 * (q * width_of fp + x) + c) / 4 ≡ q * width_of fp + x = omega arith in
    let m : (4 * (q * width_of fp + x) + c) % 4 ≡ c = omega arith in
    rw (e, m, digits_div q hx, digits_mod q hx, digits_div z hy, digits_mod z hy)

-- its place is within the list
inside : (fp x y z c : ℕ) → x < width_of fp → y < height_of fp → z < depth_of fp → c < 4
    → 4 * ((z * height_of fp + y) * width_of fp + x) + c < 4 * texels_of fp
unfolding texels_of
inside fp x y z c hx hy hz hc =
    let w = width_of fp in
    let h = height_of fp in
    let d = depth_of fp in
    let q : (z * h + y) * w + x < d * h * w = digits_lt (digits_lt hz hy) hx in
    let e : d * h * w ≡ w * h * d = mul_comm (d * h) w ∙ ap (λ (n : ℕ). w * n) (mul_comm d h) ∙ sym (mul_assoc w h d) in
    let r : (z * h + y) * w + x < w * h * d = rw e at q in
    omega (arith, r)

pub block_order : BlockOrder
unfolding block_numbers tab shown_channel channel error_texel
block_order = record {
  size = λ fp kind B. length_tab (λ k. shown_of kind (block_channel fp kind B k)) (4 * texels_of fp);
  number_at = λ fp kind B x y z c hx hy hz hc.
      get_or_tab (λ k. shown_of kind (block_channel fp kind B k)) (4 * texels_of fp) (4 * ((z * height_of fp + y) * width_of fp + x) + c) 0 (inside fp x y z c hx hy hz hc)
      ∙ number_at fp kind B x y z c hx hy hc;
  magenta_words = refl;
  magenta_bytes = refl;
  error_halves = refl;
}
