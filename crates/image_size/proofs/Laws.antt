-- What holds of an image whose sides are not refused.
-- Assumes nothing.
use mathlib.Core.Path.{◌≡◌, refl, sym, ◌∙◌}
use mathlib.Core.Bool.{Bool, true, false, true≢false}
use Prim.Native.Nat.{ℕ, ◌+◌, ◌-◌, ◌*◌, ◌/◌, ◌≤◌, ◌<◌}
use native.Mathlib.Nat.{mul-le-mul, mul-le-mul_right, mul-le-mul_left, div-lt_iff_lt-mul, add-mul, lt-div-mul-add, div-mul-le_self}
use native.Mathlib.Decide.{dec_le, ℕ_discrete}
use native.Mathlib.Omega.{arith}
use lib.Dec.{eqb, ltb}
use borrow.Author.Tests.{eq-eqb, ne_eqb, lt-ltb, le-ltb}
use Rattle.laws.specs.Choice.{pick, either}
use Rattle.footprint.specs.Footprint.{width_of, height_of}
use Rattle.footprint.proofs.Laws.{flat_bounds}
use Rattle.image_size.specs.Sides.{side_limit, bad_side, size_refusal, blocks_across, blocks_of}

-- whatever is proved of an image holds up to this side: counts, indices and byte positions do not wrap
pub limit_le : side_limit ≤ 16384
unfolding side_limit
limit_le = omega arith

-- neither 0 nor above a limit
pub within_limit : (limit n : ℕ) → either (eqb n 0) (ltb limit n) ≡ false → (0 < n) × (n ≤ limit)
within_limit limit n h = (
  elim (ℕ_discrete n 0) [ yes e ↦ absurd (true≢false (sym (zero e) ∙ h)) | no e ↦ omega (arith, e) ],
  elim (dec_le n limit) [ yes k ↦ k | no k ↦ absurd (true≢false (sym (long (omega arith)) ∙ h)) ],
)
  where
    zero : n ≡ 0 → either (eqb n 0) (ltb limit n) ≡ true
    zero e = rw (eq-eqb n 0 e)

    long : limit < n → either (eqb n 0) (ltb limit n) ≡ true
    long k = rw (ne_eqb n 0 (λ e. omega (arith, e)), lt-ltb limit n k)

pub side_fine : (n : ℕ) → bad_side n ≡ false → (0 < n) × (n ≤ side_limit)
unfolding bad_side
side_fine n = within_limit side_limit n

pub record Sized (fp w h : ℕ) : Type 0 where
  pub footprint : fp ≤ 13
  pub wide : bad_side w ≡ false
  pub high : bad_side h ≡ false

either_no : (a b : Bool) → ◌≡◌ {A = ℕ} (pick (either a b) 3 0) 0 → (a ≡ false) × (b ≡ false)
either_no true b e = absurd (omega (arith, e))
either_no false true e = absurd (omega (arith, e))
either_no false false e = (refl, refl)

sized_at : (fp w h : ℕ) (t : Bool) → ltb 13 fp ≡ t → ◌≡◌ {A = ℕ} (pick t 1 (pick (either (bad_side w) (bad_side h)) 3 0)) 0 → Sized fp w h
sized_at fp w h true q e = absurd (omega (arith, e))
sized_at fp w h false q e = record {
  footprint = elim (dec_le fp 13) [ yes k ↦ k | no k ↦ absurd (true≢false (sym (lt-ltb 13 fp (omega arith)) ∙ q)) ];
  wide = (either_no (bad_side w) (bad_side h) e).0;
  high = (either_no (bad_side w) (bad_side h) e).1;
}

pub sized : (fp w h : ℕ) → size_refusal fp w h ≡ 0 → Sized fp w h
unfolding size_refusal
sized fp w h e = sized_at fp w h (ltb 13 fp) refl e

pub fine : (fp w h : ℕ) → fp ≤ 13 → bad_side w ≡ false → bad_side h ≡ false → size_refusal fp w h ≡ 0
unfolding size_refusal
fine fp w h a b c = rw (le-ltb 13 fp a, b, c)

-- ---- blocks along a side

-- every place of a side lies in one of its blocks
pub across_covers : (w n x : ℕ) → 0 < n → x < w → x / n < blocks_across w n
unfolding blocks_across
across_covers w n x p h = (div-lt_iff_lt-mul p).1 (let e : w + n - 1 < (w + n - 1) / n * n + n = lt-div-mul-add p in omega arith)

-- every block begins within the side
pub across_inside : (w n b : ℕ) → 0 < n → b < blocks_across w n → b * n < w
unfolding blocks_across
across_inside w n b p h =
    let e = div-mul-le_self (w + n - 1) n in
    let g : (b + 1) * n ≤ (w + n - 1) / n * n = mul-le-mul_right n (omega arith) in
    let k : (b + 1) * n ≡ b * n + 1 * n = add-mul b 1 n in
    omega arith

pub across_le : (w n : ℕ) → 0 < n → blocks_across w n ≤ w
across_le w n p =
    elim (dec_le (blocks_across w n) w) [
      | yes h ↦ h
      | no h ↦ let e = across_inside w n w p (omega arith) in let g : w * 1 ≤ w * n = mul-le-mul_left w p in absurd (omega arith)
    ]

pub across_pos : (w n : ℕ) → 0 < n → 0 < w → 0 < blocks_across w n
across_pos w n p h = let e = across_covers w n 0 p h in omega arith

pub product_pos : (a b : ℕ) → 0 < a → 0 < b → 0 < a * b
product_pos a b p q = let e : 1 * 1 ≤ a * b = mul-le-mul p q in omega arith

pub blocks_pos : (fp w h : ℕ) → size_refusal fp w h ≡ 0 → 0 < blocks_of fp w h
unfolding blocks_of
blocks_pos fp w h e =
    let s = sized fp w h e in
    let b = flat_bounds fp (let k = s.footprint in omega arith) in
    product_pos _ _ (across_pos h (height_of fp) (let k = b.height_least in omega arith) (side_fine h s.high).0)
    (across_pos w (width_of fp) (let k = b.width_least in omega arith) (side_fine w s.wide).0)

pub product_most : (a b : ℕ) → a ≤ 16384 → b ≤ 16384 → a * b ≤ 268435456
product_most a b p q = let e : a * b ≤ 16384 * 16384 = mul-le-mul p q in omega arith
