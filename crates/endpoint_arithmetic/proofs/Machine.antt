-- Signed numbers of a small range: sums, halves, the clamp, and what the machine reads back.
-- Assumes nothing.
use mathlib.Core.Path.{◌≡◌, refl, sym, subst}
use mathlib.Core.Bool.{Bool, true, false, cond}
use Prim.Native.Nat.{ℕ, suc, ◌+◌, ◌-◌, ◌*◌, ◌^◌, ◌≤◌, ◌<◌}
use native.Mathlib.Omega.{arith}
use lib.Dec.{ltb, T}
use lib.IntN.{ℤ, pos, negsuc, ◌+ℤ◌, sub_ℕ, nat_abs}
use lib.Signed.{shr_z, mag, lt_z, non_neg}
use borrow.Author.Tests.{ltb-true, ltb-false}
use mir.Syntax.{Width, w8, w32}
use mir.Val.{SFits, hbits, to_z, of_z}
use mir.ValLaws.{to_z-of_z}
use Rattle.endpoint_arithmetic.specs.Signed.{clamped}
use Rattle.endpoint_arithmetic.specs.Bounds.{Within, Near}

fits' : (lo hi m : ℕ) (z : ℤ) → Near lo hi z → lo ≤ m → hi < m → mag z < m
fits' lo hi m (pos n) h l u = omega arith
fits' lo hi m (negsuc n) h l u = omega arith

-- a number between bounds that a width holds fits it
pub within_fits : (w : Width) {lo hi : ℕ} {z : ℤ} → Within lo hi z → lo ≤ 2 ^ hbits w → hi < 2 ^ hbits w → SFits w z
within_fits w {lo} {hi} {z} h l u = record { sfits = fits' lo hi (2 ^ hbits w) z h.near l u }

byte' : (z : ℤ) → mag z < 128 → Near 128 127 z
byte' (pos n) h = omega arith
byte' (negsuc n) h = omega arith

-- what a signed byte holds
pub fits_within : {z : ℤ} → SFits w8 z → Within 128 127 z
fits_within {z} f = record { near = byte' z f.sfits }

pub within_pos : {lo hi n : ℕ} → n ≤ hi → Within lo hi (pos n)
within_pos h = record { near = h }

sub' : (lo hi m n : ℕ) → m ≤ hi → n ≤ lo → Near lo hi (sub_ℕ m n)
sub' lo hi m n h l = go (ltb m n) refl where
  go : (t : Bool) → ltb m n ≡ t → Near lo hi (cond t (negsuc (n - suc m)) (pos (m - n)))
  go true e = omega (arith, ltb-true m n e)
  go false e = omega arith

add' : (a b c d : ℕ) (x y : ℤ) → Near a b x → Near c d y → Near (a + c) (b + d) (x +ℤ y)
add' a b c d (pos m) (pos n) h k = omega arith
add' a b c d (pos m) (negsuc n) h k = sub' (a + c) (b + d) m (suc n) (omega arith) (omega arith)
add' a b c d (negsuc m) (pos n) h k = sub' (a + c) (b + d) n (suc m) (omega arith) (omega arith)
add' a b c d (negsuc m) (negsuc n) h k = omega arith

pub within_add : {a b c d : ℕ} {x y : ℤ} → Within a b x → Within c d y → Within (a + c) (b + d) (x +ℤ y)
within_add {a} {b} {c} {d} {x} {y} h k = record { near = add' a b c d x y h.near k.near }

half' : (a b : ℕ) (z : ℤ) → Near (a * 2) (b * 2) z → Near a b (shr_z z 2)
half' a b (pos n) h = omega arith
half' a b (negsuc n) h = omega arith

pub within_half : (a b : ℕ) {z : ℤ} → Within (a * 2) (b * 2) z → Within a b (shr_z z 2)
within_half a b {z} h = record { near = half' a b z h.near }

-- a signed byte, widened
pub widened : (z : ℤ) → SFits w8 z → to_z w32 (of_z w32 (to_z w8 (of_z w8 z))) ≡ z
widened z f = rw (to_z-of_z w8 z f) (to_z-of_z w32 z (within_fits w32 (fits_within f) (omega arith) (omega arith)))

-- a sum as the machine makes it
pub sum_read : (x y : ℤ) → SFits w32 x → SFits w32 y → SFits w32 (x +ℤ y) → to_z w32 (of_z w32 (to_z w32 (of_z w32 x) +ℤ to_z w32 (of_z w32 y))) ≡ x +ℤ y
sum_read x y hx hy hs = rw (to_z-of_z w32 x hx, to_z-of_z w32 y hy) (to_z-of_z w32 (x +ℤ y) hs)

-- the three ways of a clamp
pub clamp_low : (z : ℤ) → lt_z z (pos 0) ≡ true → 0 ≡ clamped z
unfolding clamped
clamp_low (pos n) e = omega (arith, ltb-true n 0 e)
clamp_low (negsuc n) e = refl

pub clamp_high : (z : ℤ) → lt_z (pos 255) z ≡ true → 255 ≡ clamped z
unfolding clamped
clamp_high (pos n) e = omega (arith, ltb-true 255 n e)
clamp_high (negsuc n) e = absurd (subst T (sym e) tt)

pub record Mid (z : ℤ) : Type 0 where
  pub positive : T (non_neg z)
  pub small : nat_abs z < 256
  pub kept : nat_abs z ≡ clamped z

pub clamp_mid : (z : ℤ) → lt_z z (pos 0) ≡ false → lt_z (pos 255) z ≡ false → Mid z
unfolding clamped
clamp_mid (pos n) e f = record { positive = tt; small = omega (arith, ltb-false 255 n f); kept = omega (arith, ltb-false 255 n f) }
clamp_mid (negsuc n) e f = absurd (subst T e tt)
