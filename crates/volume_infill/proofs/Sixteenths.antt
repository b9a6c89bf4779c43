-- Four factors that make sixteen: what a blend of two planes in one sum is, whatever the factors are.
-- Assumes nothing.
use mathlib.Core.Path.{◌≡◌, ap, ◌∙◌}
use Prim.Native.Nat.{ℕ, ◌+◌, ◌*◌, ◌/◌, ◌%◌, ◌≤◌}
use native.Mathlib.Nat.{mul-le-mul_right, mul-add, add-mul, mul_assoc}
use native.Mathlib.Omega.{arith}
use Rattle.encoding.specs.declared.LevelPair.{LevelPair}
use Rattle.encoding.specs.inner.Levels.{first_level, second_level, BytePair}
use Rattle.volume_infill.specs.Simplex.{simplex_sum}
use Rattle.volume_infill.specs.inner.Way.{both_four}

abbrev packed : ℕ → ℕ → ℕ
packed a b = a + 65536 * b

-- a common factor
whole : (m a b c d : ℕ) → m * a + m * b + m * c + m * d ≡ m * (a + b + c + d)
whole m a b c d = rw (mul-add m (a + b + c) d, mul-add m (a + b) c, mul-add m a b)

-- a factor on both planes
times : (a b w : ℕ) → packed a b * w ≡ packed (a * w) (b * w)
times a b w = rw (add-mul a (65536 * b) w, mul_assoc 65536 b w)

-- the halves of a sum of two planes
low : (a b : ℕ) → a ≤ 4080 → (packed a b + 524296) / 16 % 256 ≡ (a + 8) / 16
low a b h = omega arith

high : (a b : ℕ) → a ≤ 4080 → (packed a b + 524296) / 16 / 65536 ≡ (b + 8) / 16
high a b h = omega arith

module _ (w0 w1 w2 w3 : ℕ) (s : w0 + w1 + w2 + w3 ≡ 16) where
  abbrev sum : ℕ → ℕ → ℕ → ℕ → ℕ
  sum p0 p1 p2 p3 = p0 * w0 + p1 * w1 + p2 * w2 + p3 * w3

  pub sum_le : (m p0 p1 p2 p3 : ℕ) → p0 ≤ m → p1 ≤ m → p2 ≤ m → p3 ≤ m → sum p0 p1 p2 p3 ≤ m * 16
  sum_le m p0 p1 p2 p3 h0 h1 h2 h3 =
      let e : m * w0 + m * w1 + m * w2 + m * w3 ≡ m * 16 = rw (whole m w0 w1 w2 w3, s) in
      omega (arith, mul-le-mul_right w0 h0, mul-le-mul_right w1 h1, mul-le-mul_right w2 h2, mul-le-mul_right w3 h3)

  module _ (a0 b0 a1 b1 a2 b2 a3 b3 : ℕ) (h0 : a0 ≤ 255) (h1 : a1 ≤ 255) (h2 : a2 ≤ 255) (h3 : a3 ≤ 255) where
    apart : sum (packed a0 b0) (packed a1 b1) (packed a2 b2) (packed a3 b3) ≡ packed (sum a0 a1 a2 a3) (sum b0 b1 b2 b3)
    apart = omega (arith, times a0 b0 w0, times a1 b1 w1, times a2 b2 w2, times a3 b3 w3)

    first_le : sum a0 a1 a2 a3 ≤ 4080
    first_le = sum_le 255 a0 a1 a2 a3 h0 h1 h2 h3

    low_plane : (sum (packed a0 b0) (packed a1 b1) (packed a2 b2) (packed a3 b3) + 524296) / 16 % 256 ≡ (sum a0 a1 a2 a3 + 8) / 16
    low_plane = rw apart (low (sum a0 a1 a2 a3) (sum b0 b1 b2 b3) first_le)

    high_plane : (sum (packed a0 b0) (packed a1 b1) (packed a2 b2) (packed a3 b3) + 524296) / 16 / 65536 ≡ (sum b0 b1 b2 b3 + 8) / 16
    high_plane = rw apart (high (sum a0 a1 a2 a3) (sum b0 b1 b2 b3) first_le)

  pub four_le : (m p0 p1 p2 p3 : ℕ) → p0 ≤ m → p1 ≤ m → p2 ≤ m → p3 ≤ m → simplex_sum w0 w1 w2 w3 p0 p1 p2 p3 ≤ m
  unfolding simplex_sum
  four_le m p0 p1 p2 p3 h0 h1 h2 h3 = let t = sum_le m p0 p1 p2 p3 h0 h1 h2 h3 in omega arith

  -- of pairs of levels
  module _ (p q r t : LevelPair) (hp : BytePair p) (hq : BytePair q) (hr : BytePair r) (ht : BytePair t) where
    apart_at : (p : LevelPair) → BytePair p → p.0 ≡ packed (first_level p) (second_level p)
    apart_at p h = omega (arith, h.first, h.second)

    low_at : (p : LevelPair) → first_level p ≤ 255
    low_at p = omega arith

    both_at : both_four w0 w1 w2 w3 p.0 q.0 r.0 t.0
        ≡ both_four w0 w1 w2 w3 (packed (first_level p) (second_level p)) (packed (first_level q) (second_level q)) (packed (first_level r) (second_level r)) (packed (first_level t) (second_level t))
    both_at = rw (← apart_at p hp, ← apart_at q hq, ← apart_at r hr, ← apart_at t ht)

    pub first_four : both_four w0 w1 w2 w3 p.0 q.0 r.0 t.0 % 256 ≡ simplex_sum w0 w1 w2 w3 (first_level p) (first_level q) (first_level r) (first_level t)
    unfolding both_four simplex_sum
    first_four =
        ap (λ (n : ℕ). n % 256) both_at
        ∙ low_plane (first_level p) (second_level p) (first_level q) (second_level q) (first_level r) (second_level r) (first_level t) (second_level t) (low_at p) (low_at q) (low_at r) (low_at t)

    pub second_four : both_four w0 w1 w2 w3 p.0 q.0 r.0 t.0 / 65536 ≡ simplex_sum w0 w1 w2 w3 (second_level p) (second_level q) (second_level r) (second_level t)
    unfolding both_four simplex_sum
    second_four =
        ap (λ (n : ℕ). n / 65536) both_at
        ∙ high_plane (first_level p) (second_level p) (first_level q) (second_level q) (first_level r) (second_level r) (first_level t) (second_level t) (low_at p) (low_at q) (low_at r) (low_at t)
