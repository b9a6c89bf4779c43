-- The bits of code by radix, and bounds of the counts.
-- Assumes nothing.
use mathlib.Core.Path.{◌≡◌, refl}
use Prim.Native.Nat.{ℕ, ◌+◌, ◌*◌, ◌/◌, ◌≤◌, ◌<◌}
use native.Mathlib.Omega.{arith}
use lib.Dec.{eqb}
use Rattle.laws.specs.Choice.{pick}
use Rattle.encoding.specs.declared.Encoding.{Encoding}
use Rattle.encoding.specs.declared.Encoding.TheVariants.{Bits, Trits, Quints}
use Rattle.encoding.specs.Encoding.{group_size, radix, code_bits}

-- the bits of code by the digits' radix
pub code_radix : (e : Encoding) (n : ℕ) → pick (eqb (radix e) 3) ((8 * n + 4) / 5) (pick (eqb (radix e) 5) ((7 * n + 2) / 3) 0) ≡ code_bits e n
code_radix Bits n = refl
code_radix Trits n = refl
code_radix Quints n = refl

-- a number takes at most three bits of code
pub code_le : (e : Encoding) (n : ℕ) → code_bits e n ≤ 3 * n
code_le Bits n = omega arith
code_le Trits n = omega arith
code_le Quints n = omega arith

pub size_pos : (e : Encoding) → 0 < group_size e
size_pos Bits = omega arith
size_pos Trits = omega arith
size_pos Quints = omega arith

pub size_le : (e : Encoding) → group_size e ≤ 5
size_le Bits = omega arith
size_le Trits = omega arith
size_le Quints = omega arith

pub radix_pos : (e : Encoding) → 0 < radix e
radix_pos Bits = omega arith
radix_pos Trits = omega arith
radix_pos Quints = omega arith

pub radix_le : (e : Encoding) → radix e ≤ 5
radix_le Bits = omega arith
radix_le Trits = omega arith
radix_le Quints = omega arith
