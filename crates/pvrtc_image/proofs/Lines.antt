-- What a line shows is what the image's texels are.
-- Assumes nothing.
use mathlib.Core.Path.{◌≡◌, refl, sym, ap, ap₂, ◌∙◌}
use mathlib.Core.Bool.{Bool, true, false}
use mathlib.Core.List.{List}
use Prim.Native.Nat.{ℕ, zero, suc, ◌+◌, ◌-◌, ◌*◌, ◌/◌, ◌%◌, ◌^◌, ◌≤◌, ◌<◌}
use native.Mathlib.Nat.{mul_assoc, mul_comm, add-mul, lt_of_le_of_lt}
use native.Mathlib.Omega.{arith}
use native.Mathlib.Decide.{dec_lt}
use lib.Dec.{eqb, ltb}
use lib.ListN.{length, get_or}
use borrow.Author.Tests.{lt-ltb, le-ltb}
use Rattle.laws.specs.Choice.{pick}
use Rattle.laws.specs.inner.Filled.{put_four}
use Rattle.laws.proofs.Filling.{filled_four, length_four}
use Rattle.bits.specs.Field.{field}
use Rattle.pvrtc_texel.specs.Word.{colour_a, colour_b}
use Rattle.pvrtc_texel.specs.Texel.{low_word, high_word, relative, interpolated, unorm8, upscaled, texel_at}
use Rattle.pvrtc_texel.proofs.Bounds.{most_of, colour_a_most, colour_b_most, interpolated_most, modulated_byte}
use Rattle.pvrtc_texel.proofs.Local.{own_low, own_high}
use Rattle.pvrtc_word.specs.inner.Lanes.{lanes, lane, byte_of, rgba_of}
use Rattle.pvrtc_word.specs.declared.Rgba.{Rgba}
use Rattle.pvrtc_rows.specs.inner.Rows.{around, Threes, WordRow}
use Rattle.pvrtc_image.specs.inner.Lines.{between, Low, Line, sample_a, sample_b, own_word, shown_on_line, Paintable, Painted}
use Rattle.pvrtc_rows.proofs.Rows.{around_low, around_high, around_own}

-- ---- numbers of four channels

-- channels are interpolated one by one
pub between_lanes : (p : ℕ) (f g : ℕ → ℕ) → p < 4 → between p (lanes f) (lanes g) ≡ lanes (λ c. between p (f c) (g c))
unfolding lanes between
between_lanes zero f g h = omega arith
between_lanes (suc zero) f g h = omega arith
between_lanes (suc (suc zero)) f g h = omega arith
between_lanes (suc (suc (suc zero))) f g h = omega arith
between_lanes (suc (suc (suc (suc p)))) f g h = absurd (omega arith)

-- a channel that fits is read again
pub lane_at_lem : (f : ℕ → ℕ) → ((c : ℕ) → f c < 65536) → (c : ℕ) → c < 4 → lane (lanes f) c ≡ f c
unfolding lanes lane field
lane_at_lem f h zero l = omega (arith, h 0)
lane_at_lem f h (suc zero) l = omega (arith, h 0, h 1)
lane_at_lem f h (suc (suc zero)) l = omega (arith, h 0, h 1, h 2)
lane_at_lem f h (suc (suc (suc zero))) l = omega (arith, h 0, h 1, h 2, h 3)
lane_at_lem f h (suc (suc (suc (suc c)))) l = absurd (omega arith)

turned : (a r q : ℕ) → a * r * q ≡ a * (q * r)
turned a r q = mul_assoc a r q ∙ ap (λ (n : ℕ). a * n) (mul_comm r q)

-- downwards and then across is 002's interpolation
twice : (x y c00 c10 c01 c11 : ℕ) → between x (between y c00 c01) (between y c10 c11) ≡ interpolated x y c00 c10 c01 c11
unfolding between interpolated
twice x y c00 c10 c01 c11 =
    omega (arith, add-mul (c00 * (4 - y)) (c01 * y) (4 - x), add-mul (c10 * (4 - y)) (c11 * y) x, turned c00 (4 - y) (4 - x), turned c01 y (4 - x), turned c10 (4 - y) x, turned c11 y x)

-- ---- rows leave room

lanes_lt : (f : ℕ → ℕ) → ((c : ℕ) → f c ≤ most_of c) → lanes f < 2 ^ 52
unfolding lanes
lanes_lt f h = omega (arith, h 0, h 1, h 2, h 3)

pub row_low : (n : ℕ) (word : ℕ → ℕ) (l : List ℕ) → WordRow n word l → Low (n + 2) l
unfolding Threes
row_low n word l r = record {
  size = r.size;
  first_low = λ i h. rw (r.words i h).first (lanes_lt _ (colour_a_most (word (around n i))));
  second_low = λ i h. rw (r.words i h).second (lanes_lt _ (colour_b_most (word (around n i))));
}

pub low_less : (n m : ℕ) (l : List ℕ) → m ≤ n → Low n l → Low m l
low_less n m l h w = record { size = w.size; first_low = λ i k. w.first_low i (omega arith); second_low = λ i k. w.second_low i (omega arith) }

between_lt : (p a b : ℕ) → p < 4 → a < 2 ^ 52 → b < 2 ^ 52 → between p a b < 2 ^ 58
unfolding between
between_lt zero a b h ha hb = omega arith
between_lt (suc zero) a b h ha hb = omega arith
between_lt (suc (suc zero)) a b h ha hb = omega arith
between_lt (suc (suc (suc zero))) a b h ha hb = omega arith
between_lt (suc (suc (suc (suc p)))) a b h ha hb = absurd (omega arith)

lanes_ext : (f g : ℕ → ℕ) → ((c : ℕ) → f c ≡ g c) → lanes f ≡ lanes g
unfolding lanes
lanes_ext f g h = rw (h 0, h 1, h 2, h 3)

relative_lt : (x : ℕ) → relative x < 4
unfolding relative
relative_lt x = omega arith

-- the row of the word that a texel lies in is the low one in the first two rows below a sample, else the high one
own_row : (m y : ℕ) → y < 4 * m → (u : ℕ → ℕ) → pick (ltb (relative y) 2) (u (low_word m y)) (u (high_word m y)) ≡ u (y / 4)
own_row m y h u =
    elim (dec_lt (relative y) 2) [
      | yes p ↦ rw (lt-ltb _ 2 p) (ap u (sym (own_low m y h p)))
      | no p ↦ let q : 2 ≤ relative y = omega arith in rw (le-ltb _ 2 q) (ap u (sym (own_high m y h q)))
    ]

-- ---- a texel of a line

module _ (n m : ℕ) (word : ℕ → ℕ → ℕ) (x y : ℕ) (hx : x < 4 * n) (hy : y < 4 * m) (top bottom line : List ℕ)
    (above : WordRow n (λ X. word X (low_word m y)) top) (below : WordRow n (λ X. word X (high_word m y)) bottom) (l : Line (relative y) top bottom line (n + 2)) where
  -- a colour of word i, interpolated downwards
  mixed : (ℕ → ℕ → ℕ) → ℕ → ℕ → ℕ
  mixed colour i c = between (relative y) (colour (word (around n i) (low_word m y)) c) (colour (word (around n i) (high_word m y)) c)

  line_a : (i : ℕ) → i < n + 2 → get_or line (3 * i) 0 ≡ lanes (mixed colour_a i)
  unfolding Threes mixed
  line_a i h =
      (l.words i h).first ∙ ap₂ (between (relative y)) (above.words i h).first (below.words i h).first
      ∙ between_lanes (relative y) (colour_a (word (around n i) (low_word m y))) (colour_a (word (around n i) (high_word m y))) (relative_lt y)

  line_b : (i : ℕ) → i < n + 2 → get_or line (3 * i + 1) 0 ≡ lanes (mixed colour_b i)
  unfolding Threes mixed
  line_b i h =
      (l.words i h).second ∙ ap₂ (between (relative y)) (above.words i h).second (below.words i h).second
      ∙ between_lanes (relative y) (colour_b (word (around n i) (low_word m y))) (colour_b (word (around n i) (high_word m y))) (relative_lt y)

  -- 002's interpolated channel
  sample : (ℕ → ℕ → ℕ) → ℕ → ℕ
  sample colour c =
      interpolated (relative x) (relative y) (colour (word (low_word n x) (low_word m y)) c) (colour (word (high_word n x) (low_word m y)) c)
      (colour (word (low_word n x) (high_word m y)) c) (colour (word (high_word n x) (high_word m y)) c)

  some : 0 < n
  some = omega arith

  crossed : (colour : ℕ → ℕ → ℕ) → between (relative x) (lanes (mixed colour ((x + 2) / 4))) (lanes (mixed colour ((x + 2) / 4 + 1))) ≡ lanes (sample colour)
  unfolding mixed sample
  crossed colour =
      between_lanes (relative x) (mixed colour ((x + 2) / 4)) (mixed colour ((x + 2) / 4 + 1)) (relative_lt x)
      ∙ lanes_ext _ _ (λ c. rw (around_low n x, around_high n x some) (twice (relative x) (relative y) _ _ _ _))

  sample_a_lem : sample_a line x ≡ lanes (sample colour_a)
  unfolding sample_a
  sample_a_lem =
      let i = (x + 2) / 4 in
      let e : 3 * i + 3 ≡ 3 * (i + 1) = omega arith in
      rw (e, line_a i (omega arith), line_a (i + 1) (omega arith)) (crossed colour_a)

  sample_b_lem : sample_b line x ≡ lanes (sample colour_b)
  unfolding sample_b
  sample_b_lem =
      let i = (x + 2) / 4 in
      let e : 3 * i + 4 ≡ 3 * (i + 1) + 1 = omega arith in
      rw (e, line_b i (omega arith), line_b (i + 1) (omega arith)) (crossed colour_b)

  sample_lt : (colour : ℕ → ℕ → ℕ) → ((W c : ℕ) → colour W c ≤ most_of c) → (c : ℕ) → sample colour c < 65536
  unfolding sample
  sample_lt colour h c =
      lt_of_le_of_lt (interpolated_most (most_of c) (relative x) (relative y) _ _ _ _ (relative_lt x) (relative_lt y) (h _ c) (h _ c) (h _ c) (h _ c)) (go (eqb c 3))
    where
      go : (t : Bool) → pick t 15 31 * 16 < 65536
      go true = omega arith
      go false = omega arith

  upscaled_a : (c : ℕ) → c < 4 → unorm8 c (lane (sample_a line x) c) ≡ upscaled n m word colour_a x y c
  unfolding upscaled sample
  upscaled_a c h = ap (unorm8 c) (ap (λ (v : ℕ). lane v c) sample_a_lem ∙ lane_at_lem (sample colour_a) (sample_lt colour_a colour_a_most) c h)

  upscaled_b : (c : ℕ) → c < 4 → unorm8 c (lane (sample_b line x) c) ≡ upscaled n m word colour_b x y c
  unfolding upscaled sample
  upscaled_b c h = ap (unorm8 c) (ap (λ (v : ℕ). lane v c) sample_b_lem ∙ lane_at_lem (sample colour_b) (sample_lt colour_b colour_b_most) c h)

  own : own_word line x ≡ word (x / 4) (y / 4)
  unfolding own_word Threes
  own =
      let i = x / 4 + 1 in
      let h : i < n + 2 = omega arith in
      let e : 3 * (x / 4) + 5 ≡ 3 * i + 2 = omega arith in
      rw e
      ((l.words i h).third ∙ ap₂ (pick (ltb (relative y) 2)) (above.words i h).third (below.words i h).third
      ∙ own_row m y hy (word (around n i)) ∙ ap (λ (X : ℕ). word X (y / 4)) (around_own n x hx))

  pub shown_is : (c : ℕ) → c < 4 → shown_on_line line y x c ≡ texel_at n m word x y c
  unfolding shown_on_line texel_at byte_of
  shown_is c h = rw (own, upscaled_a c h, upscaled_b c h)

  low_a : (i : ℕ) → i < n + 2 → get_or line (3 * i) 0 < 2 ^ 58
  unfolding Threes
  low_a i h = rw (l.words i h).first (between_lt _ _ _ (relative_lt y) ((row_low n _ top above).first_low i h) ((row_low n _ bottom below).first_low i h))

  low_b : (i : ℕ) → i < n + 2 → get_or line (3 * i + 1) 0 < 2 ^ 58
  unfolding Threes
  low_b i h = rw (l.words i h).second (between_lt _ _ _ (relative_lt y) ((row_low n _ top above).second_low i h) ((row_low n _ bottom below).second_low i h))

  pub paintable : Paintable line y x
  paintable =
      let i = (x + 2) / 4 in
      let e : 3 * i + 3 ≡ 3 * (i + 1) = omega arith in
      let f : 3 * i + 4 ≡ 3 * (i + 1) + 1 = omega arith in
      record {
        size = l.size;
        left_a = low_a i (omega arith);
        right_a = rw e (low_a (i + 1) (omega arith));
        left_b = low_b i (omega arith);
        right_b = rw f (low_b (i + 1) (omega arith));
        bytes = λ c h. rw (upscaled_a c h, upscaled_b c h) (modulated_byte n m word (own_word line x) (x % 4) (y % 4) x y c);
      }

-- ---- a buffer that is painted from place `at` on

pub painted_none : (f : ℕ → ℕ) (at : ℕ) (old : List ℕ) → Painted f 0 at old old
painted_none f at old = record { size = refl; fills = λ F w e. let z : at + 0 ≡ at = omega arith in rw z w }

-- four numbers more
pub painted_four : (f : ℕ → ℕ) (n at : ℕ) (old new : List ℕ) {a b c e : ℕ} (p : ℕ) → p ≡ at + n → at + n + 4 ≤ length old → Painted f n at old new
    → a ≡ f n → b ≡ f (n + 1) → c ≡ f (n + 2) → e ≡ f (n + 3) → Painted f (n + 4) at old (put_four new p a b c e)
painted_four f n at old new p q h w ea eb ec ee = record {
  size = length_four new p _ _ _ _ ∙ w.size;
  fills = λ F old-filled same.
      let s1 : at + (n + 1) ≡ at + n + 1 = omega arith in
      let s2 : at + (n + 2) ≡ at + n + 2 = omega arith in
      let s3 : at + (n + 3) ≡ at + n + 3 = omega arith in
      let s4 : at + (n + 4) ≡ at + n + 4 = omega arith in
      rw (q, s4)
      (filled_four F 0 new (at + n) _ _ _ _ (omega (arith, w.size)) (w.fills F old-filled (λ k l. same k (omega arith)))
      (ea ∙ same n (omega arith)) (eb ∙ same (n + 1) (omega arith) ∙ ap F s1) (ec ∙ same (n + 2) (omega arith) ∙ ap F s2) (ee ∙ same (n + 3) (omega arith) ∙ ap F s3));
}

-- a texel more
pub painted_texel : (g : ℕ → ℕ → ℕ) (x at : ℕ) (old new : List ℕ) (t : Rgba) → at + 4 * x + 4 ≤ length old → Painted (λ k. g (k / 4) (k % 4)) (4 * x) at old new
    → t ≡ rgba_of (g x) → Painted (λ k. g (k / 4) (k % 4)) (4 * (x + 1)) at old (put_four new (at + 4 * x) t.r t.g t.b t.a)
painted_texel g x at old new t h w e =
    let z : 4 * (x + 1) ≡ 4 * x + 4 = omega arith in
    rw z
    (painted_four (λ k. g (k / 4) (k % 4)) (4 * x) at old new (at + 4 * x) refl h w
    (ap (λ (u : Rgba). u.r) e ∙ ap₂ g (omega arith) (omega arith)) (ap (λ (u : Rgba). u.g) e ∙ ap₂ g (omega arith) (omega arith))
    (ap (λ (u : Rgba). u.b) e ∙ ap₂ g (omega arith) (omega arith)) (ap (λ (u : Rgba). u.a) e ∙ ap₂ g (omega arith) (omega arith)))
