-- The turns of the loop that takes bits of column and row.
-- Assumes nothing.
use mathlib.Core.Path.{◌≡◌, sym, ap, subst, ◌∙◌}
use mathlib.Core.Logic.{◌⊎◌, ⊎_elim}
use Prim.Native.Nat.{ℕ, zero, suc, ◌+◌, ◌-◌, ◌*◌, ◌/◌, ◌%◌, ◌^◌, ◌≤◌, ◌<◌}
use native.Mathlib.Nat.{mul_assoc, add-mul, mod-eq_of_lt, lt_of_lt_of_le, not-suc-le-zero}
use native.Mathlib.Omega.{arith}
use lib.Arith.{digits_lt}
use lib.Pow.{pow_pos, pow-add, pow_mono, shl_lt}
use Rattle.pvrtc_order.specs.Order.{word_place}
use Rattle.pvrtc_order.proofs.Once.{place_lt, half_lt}

pub record Turn (xb yb x y place shift a b an bn : ℕ) : Type 0 where
  pub columns : a < 2 ^ an
  pub rows : b < 2 ^ bn
  pub bits : an + bn + shift ≡ xb + yb
  pub low : place < 2 ^ shift
  pub sum : word_place an bn a b * 2 ^ shift + place ≡ word_place xb yb x y

start : (xb yb x y : ℕ) → x < 2 ^ xb → y < 2 ^ yb → Turn xb yb x y 0 0 x y xb yb
start xb yb x y h l = record {
  columns = h;
  rows = l;
  bits = omega arith;
  low = pow_pos 0;
  sum = omega arith;
}

pub start_at : (xb yb x y shift an bn : ℕ) → x < 2 ^ xb → y < 2 ^ yb → shift ≡ 0 → an ≡ xb → bn ≡ yb → Turn xb yb x y 0 shift x y an bn
start_at xb yb x y shift an bn h l es ea eb = rw (es, ea, eb) (start xb yb x y h l)

-- a number shifted up to a bit that is still among the first twenty
fits : (d n shift : ℕ) → d < 2 ^ n → n + shift ≤ 20 → d * 2 ^ shift < 2 ^ 32
fits d n shift h l = lt_of_lt_of_le (shl_lt n shift h) (pow_mono {j = 32} (omega arith))

four : (shift : ℕ) → 2 ^ (shift + 2) ≡ 4 * 2 ^ shift
four shift = pow-add 2 shift 2 ∙ omega arith

half : (k x : ℕ) → 0 < k → x < 2 ^ k → x / 2 < 2 ^ (k - 1)
half zero x h l = absurd (not-suc-le-zero h)
half (suc k) x h l = let e : suc k - 1 ≡ k = omega arith in rw e (half_lt k x l)

step : (an bn a b : ℕ) → 0 < an → 0 < bn → word_place an bn a b ≡ word_place (an - 1) (bn - 1) (a / 2) (b / 2) * 4 + (a % 2 * 2 + b % 2)
unfolding word_place
step zero bn a b h l = absurd (not-suc-le-zero h)
step (suc an) zero a b h l = absurd (not-suc-le-zero l)
step (suc an) (suc bn) a b h l =
    let e : suc an - 1 ≡ an = omega arith in
    let f : suc bn - 1 ≡ bn = omega arith in
    rw (e, f) (omega arith)

-- one of them has no bits left
rest_of : (p q a b : ℕ) → a < 2 ^ p → b < 2 ^ q → (p ≡ 0) ⊎ (q ≡ 0) → a + b ≡ word_place p q a b
unfolding word_place
rest_of zero q a b u v w = omega arith
rest_of (suc p) zero a b u v w = omega arith
rest_of (suc p) (suc q) a b u v w = absurd (⊎_elim (λ e. omega arith) (λ e. omega arith) w)

module _ (xb yb x y place shift a b an bn : ℕ) (t : Turn xb yb x y place shift a b an bn) (few : xb + yb ≤ 20) where
  pub shift_most : shift ≤ 20
  shift_most = omega (arith, t.bits)

  pub low_most : place < 2 ^ 20
  low_most = lt_of_lt_of_le t.low (pow_mono {j = 20} shift_most)

  module _ (h : 0 < an) (l : 0 < bn) where
    pair_exact : (a % 2 * 2 + b % 2) * 2 ^ shift % 2 ^ 32 ≡ (a % 2 * 2 + b % 2) * 2 ^ shift
    pair_exact = mod-eq_of_lt (fits (a % 2 * 2 + b % 2) 2 shift (omega arith) (omega (arith, t.bits)))

    pair_lt : (a % 2 * 2 + b % 2) * 2 ^ shift + place < 2 ^ (shift + 2)
    pair_lt = let q : (a % 2 * 2 + b % 2) * 2 ^ shift + place < 4 * 2 ^ shift = let d : a % 2 * 2 + b % 2 < 4 = omega arith in digits_lt d t.low in rw (four shift) q

    pub more_fits : place + (a % 2 * 2 + b % 2) * 2 ^ shift % 2 ^ 32 < 2 ^ 32
    more_fits =
        rw pair_exact
        (lt_of_lt_of_le (subst (λ (n : ℕ). n < 2 ^ (shift + 2)) (omega arith) pair_lt) (pow_mono {j = 32} (omega (arith, t.bits))))

    more : Turn xb yb x y (place + (a % 2 * 2 + b % 2) * 2 ^ shift % 2 ^ 32) (shift + 2) (a / 2) (b / 2) (an - 1) (bn - 1)
    more = record {
      columns = half an a h t.columns;
      rows = half bn b l t.rows;
      bits = omega (arith, t.bits);
      low = rw pair_exact (subst (λ (n : ℕ). n < 2 ^ (shift + 2)) (omega arith) pair_lt);
      sum =
          let W = word_place (an - 1) (bn - 1) (a / 2) (b / 2) in
          let D = a % 2 * 2 + b % 2 in
          let e1 : W * 2 ^ (shift + 2) ≡ W * 4 * 2 ^ shift = ap (λ (n : ℕ). W * n) (four shift) ∙ sym (mul_assoc W 4 (2 ^ shift)) in
          let e2 : (W * 4 + D) * 2 ^ shift ≡ W * 4 * 2 ^ shift + D * 2 ^ shift = add-mul (W * 4) D (2 ^ shift) in
          let e3 : W * 2 ^ (shift + 2) + (place + D * 2 ^ shift) ≡ (W * 4 + D) * 2 ^ shift + place = omega (arith, e1, e2) in
          rw pair_exact (e3 ∙ ap (λ (n : ℕ). n * 2 ^ shift + place) (sym (step an bn a b h l)) ∙ t.sum);
    }

    pub more_at : (next p q : ℕ) → next ≡ shift + 2 → p ≡ an - 1 → q ≡ bn - 1
        → Turn xb yb x y (place + (a % 2 * 2 + b % 2) * 2 ^ shift % 2 ^ 32) next (a / 2) (b / 2) p q
    more_at next p q en ep eq = rw (en, ep, eq) more

  module _ (h : (an ≡ 0) ⊎ (bn ≡ 0)) where
    rest_is : a + b ≡ word_place an bn a b
    rest_is = rest_of an bn a b t.columns t.rows h

    rest_lt : a + b < 2 ^ (an + bn)
    rest_lt = rw rest_is (place_lt an bn a b t.columns t.rows)

    pub rest_small : a + b < 2 ^ 20
    rest_small = lt_of_lt_of_le rest_lt (pow_mono {j = 20} (omega (arith, t.bits)))

    rest_exact : (a + b) * 2 ^ shift % 2 ^ 32 ≡ (a + b) * 2 ^ shift
    rest_exact = mod-eq_of_lt (fits (a + b) (an + bn) shift rest_lt (omega (arith, t.bits)))

    pub whole_fits : place + (a + b) * 2 ^ shift % 2 ^ 32 < 2 ^ 32
    whole_fits =
        rw rest_exact
        (let q : (a + b) * 2 ^ shift + place < 2 ^ (an + bn) * 2 ^ shift = digits_lt rest_lt t.low in
        let r : (a + b) * 2 ^ shift + place < 2 ^ (an + bn + shift) = rw (pow-add 2 (an + bn) shift) q in
        lt_of_lt_of_le (subst (λ (n : ℕ). n < 2 ^ (an + bn + shift)) (omega arith) r) (pow_mono {j = 32} (omega (arith, t.bits))))

    pub whole : place + (a + b) * 2 ^ shift % 2 ^ 32 ≡ word_place xb yb x y
    whole = rw rest_exact (omega (arith, t.sum, ap (λ (n : ℕ). n * 2 ^ shift) rest_is))
