-- An image shown row by row: the window, its line and the buffer so far.
-- Assumes nothing.
use mathlib.Core.Path.{◌≡◌, refl, ap, subst, ◌∙◌}
use mathlib.Core.List.{List}
use Prim.Native.Nat.{ℕ, ◌+◌, ◌*◌, ◌/◌, ◌%◌, ◌^◌, ◌≤◌, ◌<◌}
use native.Mathlib.Nat.{mul_comm, zero-mul}
use native.Mathlib.Omega.{arith}
use lib.Pow.{pow_pos}
use lib.ListN.{length}
use Rattle.laws.specs.Table.{tab}
use Rattle.laws.specs.inner.Filled.{Filled}
use Rattle.laws.proofs.Filling.{filled_none, filled_all}
use Rattle.pvrtc_texel.specs.Texel.{low_word, high_word, relative}
use Rattle.pvrtc_texel.specs.Image.{word_at, image_texel}
use Rattle.pvrtc_texel.proofs.Places.{row_place, rows_more}
use Rattle.pvrtc_rows.specs.inner.Rows.{WordRow, Window}
use Rattle.pvrtc_image.specs.inner.Lines.{Low, Line, shown_on_line, Paintable, Painted, number_at}
use Rattle.pvrtc_rows.proofs.Rows.{around_low, around_high}
use Rattle.pvrtc_image.proofs.Lines.{row_low, shown_is, paintable}

-- ---- one row of texels

pub window_low : (xb yb : ℕ) (s : List ℕ) (k n : ℕ) (top bottom : List ℕ) → n ≡ 2 ^ xb → Window xb yb s k top bottom → Low (n + 2) top × Low (n + 2) bottom
window_low xb yb s k n top bottom e w = rw e (row_low (2 ^ xb) _ top w.above, row_low (2 ^ xb) _ bottom w.below)

module _ (xb yb : ℕ) (s : List ℕ) (y n : ℕ) (top bottom line : List ℕ) (e : n ≡ 2 ^ xb) (hy : y < 4 * 2 ^ yb)
    (w : Window xb yb s ((y + 2) / 4) top bottom) (l : Line ((y + 2) % 4) top bottom line (n + 2)) where
  above : WordRow (2 ^ xb) (λ X. word_at xb yb s X (low_word (2 ^ yb) y)) top
  above = subst (λ (k : ℕ). WordRow (2 ^ xb) (λ X. word_at xb yb s X k) top) (around_low (2 ^ yb) y) w.above

  below : WordRow (2 ^ xb) (λ X. word_at xb yb s X (high_word (2 ^ yb) y)) bottom
  below = subst (λ (k : ℕ). WordRow (2 ^ xb) (λ X. word_at xb yb s X k) bottom) (around_high (2 ^ yb) y (pow_pos yb)) w.below

  in_line : Line (relative y) top bottom line (2 ^ xb + 2)
  unfolding relative
  in_line = subst (λ (k : ℕ). Line ((y + 2) % 4) top bottom line (k + 2)) e l

  wide : (x : ℕ) → x < 4 * n → x < 4 * 2 ^ xb
  wide x h = omega (arith, e)

  pub row_paintable : (x : ℕ) → x < 4 * n → Paintable line y x
  row_paintable x h = paintable (2 ^ xb) (2 ^ yb) (word_at xb yb s) x y (wide x h) hy top bottom line above below in_line

  row_shown : (x : ℕ) → x < 4 * n → (c : ℕ) → c < 4 → shown_on_line line y x c ≡ image_texel xb yb s x y c
  unfolding image_texel
  row_shown x h c = shown_is (2 ^ xb) (2 ^ yb) (word_at xb yb s) x y (wide x h) hy top bottom line above below in_line c

  pub row_painted : (old new : List ℕ) → Painted (λ k. shown_on_line line y (k / 4) (k % 4)) (4 * (4 * n)) (4 * (y * (4 * n))) old new
      → Painted (λ k. image_texel xb yb s (k / 4) y (k % 4)) (4 * (4 * 2 ^ xb)) (4 * (y * (4 * 2 ^ xb))) old new
  row_painted old new p =
      subst (λ (m : ℕ). Painted (λ k. image_texel xb yb s (k / 4) y (k % 4)) (4 * (4 * m)) (4 * (y * (4 * m))) old new) e
      (record {
        size = p.size;
        fills = λ F f same. p.fills F f (λ k h. row_shown (k / 4) (omega arith) (k % 4) (omega arith) ∙ same k h);
      })

-- ---- all rows

pub record Showing (xb yb : ℕ) (s top bottom line old out : List ℕ) (y : ℕ) : Type 0 where
  pub within : y ≤ 4 * 2 ^ yb
  pub window : Window xb yb s ((y + 1) / 4) top bottom
  pub room : length line ≡ 3078
  pub size : length out ≡ length old
  pub filled : Filled (number_at xb yb s) 0 out (4 * (y * (4 * 2 ^ xb)))

-- before the first row of texels the window stands at the top of the image
pub showing_start : (xb yb : ℕ) (s top bottom line old : List ℕ) → Window xb yb s 0 top bottom → length line ≡ 3078 → Showing xb yb s top bottom line old old 0
showing_start xb yb s top bottom line old w l = record {
  within = omega arith;
  window = w;
  room = l;
  size = refl;
  filled = let z : 4 * (0 * (4 * 2 ^ xb)) ≡ 0 = ap (λ (k : ℕ). 4 * k) (zero-mul (4 * 2 ^ xb)) in rw z (filled_none (number_at xb yb s) 0 old);
}

-- a row's numbers at their places in the image
number_in_row : (xb yb : ℕ) (s : List ℕ) (y k : ℕ) → k < 4 * (4 * 2 ^ xb) → image_texel xb yb s (k / 4) y (k % 4) ≡ number_at xb yb s (4 * (y * (4 * 2 ^ xb)) + k)
unfolding number_at
number_in_row xb yb s y k h = let p = row_place y (4 * 2 ^ xb) k h in rw (p.0, p.1, p.2)

pub showing_more : (xb yb : ℕ) (s top bottom line old out top' bottom' line' out' : List ℕ) (y : ℕ) → y < 4 * 2 ^ yb → Showing xb yb s top bottom line old out y
    → Window xb yb s ((y + 2) / 4) top' bottom' → length line' ≡ 3078
    → Painted (λ k. image_texel xb yb s (k / 4) y (k % 4)) (4 * (4 * 2 ^ xb)) (4 * (y * (4 * 2 ^ xb))) out out'
    → Showing xb yb s top' bottom' line' old out' (y + 1)
showing_more xb yb s top bottom line old out top' bottom' line' out' y h w v l p =
    let e : (y + 2) / 4 ≡ (y + 1 + 1) / 4 = omega arith in
    record {
      within = omega arith;
      window = subst (λ (k : ℕ). Window xb yb s k top' bottom') e v;
      room = l;
      size = p.size ∙ w.size;
      filled = subst (Filled (number_at xb yb s) 0 out') (rows_more y (4 * 2 ^ xb)) (p.fills (number_at xb yb s) w.filled (number_in_row xb yb s y));
    }

pub showing_done : (xb yb : ℕ) (s top bottom line old out : List ℕ) (y : ℕ) → length old ≡ 4 * (4 * 2 ^ xb * (4 * 2 ^ yb)) → 4 * 2 ^ yb ≤ y
    → Showing xb yb s top bottom line old out y → out ≡ tab (number_at xb yb s) (4 * (4 * 2 ^ xb * (4 * 2 ^ yb)))
showing_done xb yb s top bottom line old out y e h w =
    let q : y ≡ 4 * 2 ^ yb = omega (arith, w.within) in
    let n : 4 * (y * (4 * 2 ^ xb)) ≡ 4 * (4 * 2 ^ xb * (4 * 2 ^ yb)) = rw q (ap (λ (k : ℕ). 4 * k) (mul_comm (4 * 2 ^ yb) (4 * 2 ^ xb))) in
    filled_all (number_at xb yb s) 0 out _ (w.size ∙ e) (subst (Filled (number_at xb yb s) 0 out) n w.filled)
