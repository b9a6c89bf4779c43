-- What the procedures leave: an offset -32..31, a base and a clamped channel 0..255.
-- Assumes nothing.
use Prim.Native.Nat.{ℕ, ◌/◌, ◌%◌, ◌≤◌, ◌<◌}
use mathlib.Core.Bool.{Bool, true, false}
use mathlib.Core.Path.{◌≡◌, refl}
use native.Mathlib.Omega.{arith}
use lib.Dec.{ltb}
use lib.IntN.{ℤ, pos, negsuc, ◌-ℤ◌}
use borrow.Author.Tests.{lt-ltb, ltb-true, ltb-false}
use Rattle.laws.specs.Choice.{pick}
use Rattle.endpoint_arithmetic.specs.Signed.{base_of, offset_of, clamped}
use Rattle.endpoint_arithmetic.specs.Bounds.{Within, LeftWithin}

-- 01: "Transfers give an offset from -32 to 31"
pub offset_within : (a : ℕ) → Within 32 31 (offset_of a)
unfolding offset_of
offset_within a = go (a / 2 % 64) (omega arith) (ltb (a / 2 % 64) 32) refl where
  go : (n : ℕ) → n < 64 → (t : Bool) → ltb n 32 ≡ t → Within 32 31 (pick t (pos n) (pos n -ℤ pos 64))
  go n h true e = record { near = omega (arith, ltb-true n 32 e) }
  go n h false e = record { near = rw (lt-ltb n 64 h) (omega (arith, ltb-false n 32 e)) }

pub base_le : (a b : ℕ) → a ≤ 255 → b ≤ 255 → base_of a b ≤ 255
unfolding base_of
base_le a b h k = omega arith

pub clamped_le : (z : ℤ) → clamped z ≤ 255
unfolding clamped
clamped_le (pos n) = omega arith
clamped_le (negsuc n) = omega arith

pub left_within : LeftWithin
left_within = record { offset = offset_within; base = base_le; clamp = clamped_le }
